use Rattle.nextest_config_resolution_profiles.specs.ChainRules.{seen_rule}
use Rattle.nextest_config_resolution_profiles.specs.Platforms.{ForTarget, default_set}
use Rattle.nextest_config_resolution_profiles.proofs.Leasts.{least_here, none_at_all}
use Rattle.nextest_config_resolution_profiles.proofs.platforms.default_of_rules.Goals as goal

pub returns-in-Some-clause-found : goal.returns-in-Some-clause-found
returns-in-Some-clause-found g c =
    let found = c.in-Some.ensures.found in
    record {
      rule = seen_rule c.rule-item.result;
      least = least_here ForTarget default_set seen_rule c.args.rules.now c.loop-rule.rule-index c.rule-item.result c.in-Some.found.filter.now c.loop-rule-test.true c.rule-item.is
          c.loop-rule.invariant c.in-Some.ensures.holds found.filter;
      set = found;
    }

pub returns-clause-none : goal.returns-clause-none
returns-clause-none g c = none_at_all ForTarget default_set seen_rule c.args.rules.now c.loop-rule.rule-index c.loop-rule-test.false c.loop-rule.invariant

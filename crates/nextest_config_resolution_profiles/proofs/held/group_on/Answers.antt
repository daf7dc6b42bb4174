use Rattle.std.proofs.Common.{inl, inr, refl}
use Rattle.nextest_config_resolution_profiles.specs.Asking.{IsAskable}
use Rattle.nextest_config_resolution_profiles.specs.ChainRules.{seen_rule}
use Rattle.nextest_config_resolution_profiles.specs.Held.{Holds, group_set}
use Rattle.nextest_config_resolution_profiles.proofs.Leasts.{least_here, none_at_all}
use Rattle.nextest_config_resolution_profiles.proofs.PutOn.{item_has}
use Rattle.nextest_config_resolution_profiles.proofs.held.group_on.Goals as goal
use Rattle.nextest_config_resolution_settings.specs.TestSettings.{group_of}
use Rattle.nextest_filtering_filters.specs.Query.{test_of}

pub group_by-requires-clause-askable : goal.group_by-requires-clause-askable
group_by-requires-clause-askable g c =
    item_has (IsAskable g.F.Filters.serves_as_default g.F.Filters.asks_groups) c.args.rules.now c.loop-rule.rule-index c.rule-item.result c.loop-rule-test.true c.rule-item.is c.requires.askable

pub returns-in-Some : goal.returns-in-Some
returns-in-Some g c =
    let given = rw c.in-Some.is at c.in_ok-group.ensures in
    inl (
      seen_rule c.rule-item.result,
      least_here (Holds g.F.Filters.on_test c.args.default.now (test_of c.args.query.now)) group_set seen_rule c.args.rules.now c.loop-rule.rule-index c.rule-item.result
          (group_of c.in-Some.group) c.loop-rule-test.true c.rule-item.is c.loop-rule.invariant given.0 given.1,
    )

pub returns : goal.returns
returns g c =
    inr (
      none_at_all (Holds g.F.Filters.on_test c.args.default.now (test_of c.args.query.now)) group_set seen_rule c.args.rules.now c.loop-rule.rule-index c.loop-rule-test.false
          c.loop-rule.invariant,
      refl,
    )

use Rattle.std.proofs.Common.{◌≡◌, ◌++◌}
use Rattle.std.specs.List.{AllByRecursion, flat_map}
use Rattle.nextest_config_resolution_load.specs.Load.{AreReadBy, IsKept}
use Rattle.nextest_config_resolution_load.specs.RuleTexts.{checks_by}
use Rattle.nextest_config_resolution_load.proofs.rules.load_rules.Given as goal

-- what was loaded of those so far
abbrev pub invariant-loop-placed : goal.invariant-loop-placed
invariant-loop-placed g l =
    let rule = g.P.PlacedRule in
    record {
      ahead : l.fn.rules.items ≡ l.yielded ++ l.placed-iterator.rest.items;
      kept : AllByRecursion (IsKept (g.R.Languages.is_filter l.cx) g.R.Languages.is_spec) (flat_map (checks_by rule.wraps rule.rule_id rule.conditions) l.yielded);
      read : AreReadBy rule.conditions (g.R.Languages.is_filter l.cx) g.R.Languages.is_spec l.yielded l.loaded;
    }

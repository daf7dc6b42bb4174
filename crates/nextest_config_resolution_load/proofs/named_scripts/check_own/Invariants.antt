use Rattle.std.proofs.Common.{take}
use Rattle.std.specs.List.{AllByRecursion, flat_map}
use Rattle.nextest_config_resolution_load.specs.Load.{IsKept}
use Rattle.nextest_config_resolution_load.specs.Reading.{has_name, placed_in}
use Rattle.nextest_config_resolution_load.specs.Rules.{script_checks}
use Rattle.nextest_config_resolution_load.proofs.named_scripts.check_own.Given as goal

abbrev pub invariant-loop-rule : goal.invariant-loop-rule
invariant-loop-rule g l =
    AllByRecursion (IsKept (g.R.Languages.is_filter l.cx) g.R.Languages.is_spec) (flat_map (λ rule. script_checks l.kind (has_name l.names) (placed_in rule)) (take l.rule-index l.rules))

use Rattle.std.proofs.Common.{take}
use Rattle.std.specs.List.{AllByRecursion, flat_map}
use Rattle.nextest_config_resolution_load.specs.Load.{IsKept}
use Rattle.nextest_config_resolution_load.specs.Reading.{has_name, placed_of}
use Rattle.nextest_config_resolution_load.specs.Rules.{script_checks}
use Rattle.nextest_config_resolution_load.proofs.named_scripts.check_scripts.Given as goal

abbrev pub invariant-loop-own : goal.invariant-loop-own
invariant-loop-own g l =
    AllByRecursion (IsKept (g.R.Languages.is_filter l.cx) g.R.Languages.is_spec) (flat_map (λ own. flat_map (script_checks l.kind (has_name l.names)) (placed_of own.scripts)) (take l.own-index l.rules))

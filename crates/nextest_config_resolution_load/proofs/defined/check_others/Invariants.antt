use Rattle.std.proofs.Common.{take}
use Rattle.std.specs.List.{AllByRecursion, flat_map}
use Rattle.nextest_config_resolution_load.specs.Load.{IsKept}
use Rattle.nextest_config_resolution_load.specs.Reading.{not_among}
use Rattle.nextest_config_resolution_load.proofs.defined.check_others.Given as goal

abbrev pub invariant-loop-script : goal.invariant-loop-script
invariant-loop-script g l =
    AllByRecursion (IsKept (g.R.Languages.is_filter l.cx) g.R.Languages.is_spec) (flat_map (λ script. not_among l.path l.names script.id) (take l.script-index l.scripts))

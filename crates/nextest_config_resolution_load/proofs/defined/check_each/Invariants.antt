use Rattle.std.proofs.Common.{take}
use Rattle.std.specs.List.{AllByRecursion, flat_map}
use Rattle.nextest_config_resolution_load.specs.Checks.{may_name}
use Rattle.nextest_config_resolution_load.specs.Load.{IsKept}
use Rattle.nextest_config_resolution_load.proofs.defined.check_each.Given as goal

abbrev pub invariant-loop-it : goal.invariant-loop-it
invariant-loop-it g l =
    AllByRecursion (IsKept (g.R.Languages.is_filter l.cx) g.R.Languages.is_spec) (flat_map (λ it. may_name l.path l.kind (g.T.Named.name_of it)) (take l.it-index l.all))

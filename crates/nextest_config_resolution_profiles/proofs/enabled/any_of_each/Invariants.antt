use Rattle.std.proofs.Common.{◌≡◌, map, take}
use Rattle.nextest_config_resolution_profiles.specs.Enabled.{any_in}
use Rattle.nextest_config_resolution_profiles.proofs.enabled.any_of_each.Given as goal

-- of the columns so far
abbrev pub invariant-loop-column : goal.invariant-loop-column
invariant-loop-column l = l.row.items ≡ map (λ column. any_in l.count column.items) (take l.column-index l.columns)

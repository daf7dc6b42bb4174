use Rattle.std.proofs.Common.{◌≡◌, ◌++◌, map, take}
use Rattle.nextest_config_resolution_profiles.specs.HeldRules.{row_at}
use Rattle.nextest_config_resolution_profiles.proofs.held_rules.push_row.Given as goal

-- what the columns so far say
abbrev pub invariant-loop-column : goal.invariant-loop-column
invariant-loop-column l = l.row.items ≡ l.fn.row.items ++ row_at l.place (map (λ column. column.items) (take l.column-index l.column-items))

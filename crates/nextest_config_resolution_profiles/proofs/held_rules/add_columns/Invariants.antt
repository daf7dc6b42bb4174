use Rattle.std.proofs.Common.{◌++◌, ℕ, List, Bool, map, take}
use Rattle.nextest_config_resolution_profiles.specs.Carried.{AreCarried}
use Rattle.nextest_config_resolution_profiles.proofs.held_rules.add_columns.Given as goal

-- the columns so far are in
abbrev pub invariant-loop-column : goal.invariant-loop-column
invariant-loop-column l = (before : List (List Bool)) (count : ℕ) → AreCarried before count l.weight l.initial.numbers
    → AreCarried (before ++ map (λ column. column.items) (take l.column-index l.columns)) count l.next l.numbers

use Rattle.std.proofs.Common.{◌≡◌, ℕ, ◌<◌, ◌≤◌, length, get_or}
use Rattle.nextest_config_resolution_profiles.specs.Carried.{number_with}
use Rattle.nextest_config_resolution_profiles.specs.HeldRules.{value_at}
use Rattle.nextest_config_resolution_profiles.proofs.held_rules.add_column.Given as goal

-- the numbers so far have the column's values, and those behind them are as they were
abbrev pub invariant-loop-place : goal.invariant-loop-place
invariant-loop-place l = record {
  counted : length l.numbers ≡ length l.initial.numbers;
  before : (k : ℕ) → k < l.place → get_or l.numbers k 0 ≡ number_with l.weight (value_at k l.column) (get_or l.initial.numbers k 0);
  behind : (k : ℕ) → l.place ≤ k → get_or l.numbers k 0 ≡ get_or l.initial.numbers k 0;
}

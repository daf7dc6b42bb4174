use Rattle.std.proofs.Common.{◌≡◌, ◌++◌, drop}
use Rattle.std.specs.List.{filter}
use Rattle.test_runner_core_planning.specs.Settled.{is_in_turn}
use Rattle.test_runner_core_planning.proofs.by_priority.push_turn_of.Given as goal

-- what is added so far, and what is to be added of the tests that are left, is all
abbrev pub invariant-loop-index : goal.invariant-loop-index
invariant-loop-index l = l.tests.items ++ filter (is_in_turn l.turn) (drop l.index l.binary) ≡ l.initial.tests.items ++ filter (is_in_turn l.turn) l.binary

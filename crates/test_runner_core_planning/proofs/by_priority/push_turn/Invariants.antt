use Rattle.std.proofs.Common.{◌≡◌, ◌++◌, take}
use Rattle.std.specs.List.{filter}
use Rattle.test_runner_core_planning.specs.Settled.{is_in_turn, tests_of_all}
use Rattle.test_runner_core_planning.proofs.by_priority.push_turn.Given as goal

abbrev pub invariant-loop-binary : goal.invariant-loop-binary
invariant-loop-binary l = l.tests.items ≡ l.initial.tests.items ++ filter (is_in_turn l.turn) (tests_of_all (take l.binary-index l.binaries))

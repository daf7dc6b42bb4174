use Rattle.std.specs.List.{filter}
use Rattle.std.specs.List.Sorted.{IsPermutation}
use Rattle.test_runner_core_planning.specs.Settled.{is_among, tests_of_all}
use Rattle.test_runner_core_planning.proofs.by_priority.tests_in_turns.Given as goal

-- the tests whose turn it was
abbrev pub invariant-loop-priority : goal.invariant-loop-priority
invariant-loop-priority l = IsPermutation (filter (is_among l.done.items) (tests_of_all l.binaries)) l.tests.items

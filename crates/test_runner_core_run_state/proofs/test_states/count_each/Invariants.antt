use Rattle.std.proofs.Common.{◌≡◌, take}
use Rattle.test_runner_core_run_state.specs.Counted.{with_tests_counted}
use Rattle.test_runner_core_run_state.proofs.test_states.count_each.Given as goal

abbrev pub invariant-loop-test : goal.invariant-loop-test
invariant-loop-test g l = l.stats ≡ with_tests_counted (take l.test-index l.tests) l.initial.stats

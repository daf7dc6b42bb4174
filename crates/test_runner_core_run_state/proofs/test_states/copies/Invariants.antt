use Rattle.std.proofs.Common.{◌≡◌, take}
use Rattle.test_runner_core_run_state.proofs.test_states.copies.Given as goal

abbrev pub invariant-loop-test : goal.invariant-loop-test
invariant-loop-test g l = l.copy.items ≡ take l.test-index l.tests

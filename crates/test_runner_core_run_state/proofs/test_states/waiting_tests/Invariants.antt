use Rattle.std.proofs.Common.{◌≡◌, map, take}
use Rattle.test_runner_core_run_model.specs.State.{waiting}
use Rattle.test_runner_core_run_state.proofs.test_states.waiting_tests.Given as goal

abbrev pub invariant-loop-plan : goal.invariant-loop-plan
invariant-loop-plan g l = l.tests.items ≡ map waiting ((take l.plan-index l.planned))

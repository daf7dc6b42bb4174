use Rattle.std.proofs.Common.{◌≡◌, ◌++◌, map, take, drop}
use Rattle.test_runner_core_run_model.specs.Step.{finished_by}
use Rattle.test_runner_core_run_state.proofs.test_states.finish_each.Given as goal

abbrev pub invariant-loop-test : goal.invariant-loop-test
invariant-loop-test g l = l.tests ≡ map (finished_by l.reason) (take l.test-index l.initial.tests) ++ drop l.test-index l.initial.tests

use Rattle.std.proofs.Common.{◌≡◌, map, take}
use Rattle.test_runner_core_session.specs.Session.{run_test}
use Rattle.test_runner_core_session.proofs.plan_run.planned_tests.Given as goal

abbrev pub invariant-loop-test : goal.invariant-loop-test
invariant-loop-test l = l.planned.items ≡ map run_test (take l.test-index l.tests)

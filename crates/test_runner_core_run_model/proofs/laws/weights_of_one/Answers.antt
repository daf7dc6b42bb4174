use Rattle.test_runner_core_run_model.proofs.Weights.{weighs_its_number, weighs_its_failures}
use Rattle.test_runner_core_run_model.proofs.laws.weights_of_one.Goals as goal

pub returns-clause-state : goal.returns-clause-state
returns-clause-state c = weighs_its_number

pub returns-clause-assignment : goal.returns-clause-assignment
returns-clause-assignment c = weighs_its_failures

use Rattle.test_runner_core_run_model.proofs.FirstNumber.{finds_first_success, one_first_success}
use Rattle.test_runner_core_run_model.proofs.laws.first_success.Goals as goal

pub returns-clause-finds : goal.returns-clause-finds
returns-clause-finds c = finds_first_success

pub returns-clause-one : goal.returns-clause-one
returns-clause-one c = one_first_success

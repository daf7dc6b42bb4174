use Rattle.test_runner_core_run_model.proofs.GoingOn.{reaches_the_one_state}
use Rattle.test_runner_core_run_model.proofs.OneEnd.{ends_in_one_state}
use Rattle.test_runner_core_run_model.proofs.laws.one_end.Goals as goal

pub returns-clause-one : goal.returns-clause-one
returns-clause-one c = ends_in_one_state

pub returns-clause-reached : goal.returns-clause-reached
returns-clause-reached c = reaches_the_one_state

use Rattle.test_runner_core_run_model.proofs.GoingOn.{reaches_an_assigned_end}
use Rattle.test_runner_core_run_model.proofs.laws.assigned_end.Goals as goal

pub returns : goal.returns
returns c = reaches_an_assigned_end

use Rattle.test_runner_core_run_model.proofs.DueStatus.{ends_with_due_status}
use Rattle.test_runner_core_run_model.proofs.laws.due_status.Goals as goal

pub returns : goal.returns
returns c = ends_with_due_status

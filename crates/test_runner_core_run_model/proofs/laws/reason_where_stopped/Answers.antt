use Rattle.test_runner_core_run_model.proofs.OneEnd.{stops_where_due}
use Rattle.test_runner_core_run_model.proofs.laws.reason_where_stopped.Goals as goal

pub returns : goal.returns
returns c = stops_where_due

use Rattle.test_runner_core_run_model.proofs.WholeRuns.{succeeds_whole}
use Rattle.test_runner_core_run_model.proofs.laws.status_zero.Goals as goal

pub returns : goal.returns
returns c = succeeds_whole

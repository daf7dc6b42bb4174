use Rattle.test_runner_core.proofs.OneEnd.{succeeds_whole}
use Rattle.test_runner_core.proofs.laws.status_zero.Goals as goal

pub returns : goal.returns
returns c = succeeds_whole

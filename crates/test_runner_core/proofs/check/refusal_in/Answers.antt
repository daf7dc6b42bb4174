use Rattle.test_runner_core.proofs.Checking.{lent_reads}
use Rattle.test_runner_core.proofs.check.refusal_in.Goals as goal

pub returns-in-Ok : goal.returns-in-Ok
returns-in-Ok c = lent_reads _ _ c.in-Ok.ensures

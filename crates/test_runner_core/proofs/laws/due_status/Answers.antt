use Rattle.test_runner_core.proofs.Due as lemma
use Rattle.test_runner_core.proofs.laws.due_status.Goals as goal

pub returns : goal.returns
returns c = lemma.ends_with_due_status

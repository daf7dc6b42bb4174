use Rattle.test_runner_core.proofs.Written as lemma
use Rattle.test_runner_core.proofs.laws.written_first.Goals as goal

pub returns : goal.returns
returns c = lemma.written_first

use Rattle.test_runner_core_planning.proofs.Decided as lemma
use Rattle.test_runner_core_planning.proofs.laws.decided.Goals as goal

pub returns : goal.returns
returns c = lemma.decided

use Rattle.test_runner_core.proofs.OneReport as lemma
use Rattle.test_runner_core.proofs.laws.nothing_taken_back.Goals as goal

pub returns : goal.returns
returns c = lemma.nothing_taken_back

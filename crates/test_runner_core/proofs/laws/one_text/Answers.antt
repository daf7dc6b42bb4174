use Rattle.test_runner_core.proofs.OneReport as lemma
use Rattle.test_runner_core.proofs.laws.one_text.Goals as goal

pub returns : goal.returns
returns c = lemma.ends_with_one_text

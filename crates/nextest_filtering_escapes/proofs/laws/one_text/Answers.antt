use Rattle.nextest_filtering_escapes.proofs.Pieces as lemma
use Rattle.nextest_filtering_escapes.proofs.laws.one_text.Goals as goal

pub returns : goal.returns
returns c = lemma.one_text

use Rattle.nextest_filtering_escapes.proofs.Pieces as lemma
use Rattle.nextest_filtering_escapes.proofs.laws.plain_around.Goals as goal

pub returns : goal.returns
returns c = lemma.plain_around

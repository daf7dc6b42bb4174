use Rattle.nextest_filtering_syntax.proofs.Unsigned as lemma
use Rattle.nextest_filtering_syntax.proofs.laws.reads_back_exactly.Goals as goal

pub returns : goal.returns
returns c = lemma.reads_back_exactly

use Rattle.nextest_filtering_escapes.proofs.Ended as lemma
use Rattle.nextest_filtering_escapes.proofs.laws.bad_escapes_stay.Goals as goal

pub returns : goal.returns
returns c = lemma.bad_escapes_stay

use Rattle.nextest_filtering_escapes.proofs.Readings as lemma
use Rattle.nextest_filtering_escapes.proofs.laws.one_reading.Goals as goal

pub returns : goal.returns
returns c = lemma.one_reading

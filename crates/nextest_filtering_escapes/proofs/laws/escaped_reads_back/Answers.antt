use Rattle.nextest_filtering_escapes.proofs.Shown as lemma
use Rattle.nextest_filtering_escapes.proofs.laws.escaped_reads_back.Goals as goal

pub returns : goal.returns
returns c = lemma.escaped_reads_back

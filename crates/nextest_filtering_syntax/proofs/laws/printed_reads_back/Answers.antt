use Rattle.nextest_filtering_syntax.proofs.Printed as lemma
use Rattle.nextest_filtering_syntax.proofs.laws.printed_reads_back.Goals as goal

pub returns : goal.returns
returns c = lemma.printed_reads_back

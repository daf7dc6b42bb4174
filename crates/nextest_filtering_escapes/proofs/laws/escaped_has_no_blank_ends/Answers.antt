use Rattle.nextest_filtering_escapes.proofs.Shown as lemma
use Rattle.nextest_filtering_escapes.proofs.laws.escaped_has_no_blank_ends.Goals as goal

pub returns : goal.returns
returns c = lemma.escaped_has_no_blank_ends

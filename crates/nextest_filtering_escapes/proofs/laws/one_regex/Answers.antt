use Rattle.nextest_filtering_escapes.proofs.Slashes as lemma
use Rattle.nextest_filtering_escapes.proofs.laws.one_regex.Goals as goal

pub returns : goal.returns
returns c = lemma.one_regex

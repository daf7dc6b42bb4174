use Rattle.nextest_filtering_syntax.proofs.Trees as lemma
use Rattle.nextest_filtering_syntax.proofs.laws.one_tree.Goals as goal

pub returns : goal.returns
returns c = lemma.one_tree

use Rattle.nextest_filtering_arguments.proofs.Fronts.{other_word}
use Rattle.nextest_filtering_syntax.proofs.operators.behind_word.Goals as goal

pub returns-else-ends_word-clause-none : goal.returns-else-ends_word-clause-none
returns-else-ends_word-clause-none c = other_word _ _ _ c.in_ok-rest.ensures.some c.ends_word.ensures c.if-ends_word.false

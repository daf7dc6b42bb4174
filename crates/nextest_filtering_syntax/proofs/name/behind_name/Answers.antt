use Rattle.nextest_filtering_syntax.proofs.Names.{longer_name}
use Rattle.nextest_filtering_syntax.proofs.name.behind_name.Goals as goal

pub returns-then-goes_on-clause-none : goal.returns-then-goes_on-clause-none
returns-then-goes_on-clause-none c = longer_name _ _ _ c.in_ok-rest.ensures.some c.goes_on.ensures c.if-goes_on.true

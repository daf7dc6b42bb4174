use Rattle.nextest_filtering_syntax.proofs.Steps.{ok_known, makes_no_union, ok_makes_union}
use Rattle.nextest_filtering_syntax.proofs.parser.with_union.Goals as goal

pub returns-in-Some-clause-makes : goal.returns-in-Some-clause-makes
returns-in-Some-clause-makes c = ok_makes_union _ _ _ _ _ _ c.in-Some.ensures.some c.union.ensures.tree c.union.ensures.placed c.union.ensures.stands

pub returns-in-Some-clause-takes : goal.returns-in-Some-clause-takes
returns-in-Some-clause-takes c = ok_known _ c.in-Some.ensures.takes

pub returns-in-None-clause-makes : goal.returns-in-None-clause-makes
returns-in-None-clause-makes c = makes_no_union _ _ _ c.in-None.ensures.none.0 (c.in-None.ensures.none.1 c.requires.takes)

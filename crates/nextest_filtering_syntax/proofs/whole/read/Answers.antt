use Rattle.std.proofs.Common.{refl}
use Rattle.std.proofs.Math.Path.{◌∙◌}
use Rattle.nextest_filtering_syntax.proofs.Wholes.{reading_tree, reading_none}
use Rattle.nextest_filtering_syntax.proofs.whole.read.Goals as goal

pub returns-else-hopeless : goal.returns-else-hopeless
returns-else-hopeless c = reading_tree _ _ c.in-Ok.tree _ _ refl c.into_list-faults.ensures.list (c.whole-outcome.ensures.input ∙ c.new-faults.ensures.input) c.into_list-faults.ensures.faithful c.in-Ok.ensures.reads c.in-Ok.ensures.placed c.in-Ok.ensures.stands

pub returns-in-NoTree : goal.returns-in-NoTree
returns-in-NoTree c = reading_none _ _ _ _ _ _ c.in-Err.is c.in-NoTree.is c.into_list-faults.ensures.list (c.whole-outcome.ensures.input ∙ c.new-faults.ensures.input) c.into_list-faults.ensures.faithful c.whole-outcome.ensures.reads refl

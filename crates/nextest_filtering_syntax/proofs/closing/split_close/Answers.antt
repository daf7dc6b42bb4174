use Rattle.nextest_filtering_syntax.proofs.Closings.{cut, whole_cut}
use Rattle.nextest_filtering_syntax.proofs.closing.split_close.Goals as goal

pub returns-in-Some : goal.returns-in-Some
returns-in-Some c = cut _ _ _ _ c.split_at.ensures.front c.split_at.ensures.back

pub returns-in-None : goal.returns-in-None
returns-in-None c = whole_cut _

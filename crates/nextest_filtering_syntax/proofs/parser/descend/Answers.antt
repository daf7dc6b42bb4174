use Rattle.std.proofs.Common.{rules}
use Rattle.nextest_filtering_syntax.proofs.Steps.{descends_once}
use Rattle.nextest_filtering_syntax.proofs.parser.descend.Goals as goal

pub loop-waiting-preserved : goal.loop-waiting-preserved
loop-waiting-preserved c = (Prim.search rules, descends_once _ _ _ _ _ _ _ c.loop-waiting.invariant.1 c.in-Some.ensures.some c.in_ok-push.ensures)

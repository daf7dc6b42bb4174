use Rattle.std.proofs.Common.{length}
use Rattle.nextest_filtering_syntax.specs.Waiting as part
use Rattle.nextest_filtering_syntax.specs.Waiting.{Has, MakesUp}
use Rattle.nextest_filtering_syntax.proofs.parser.negated.Given as goal

-- the negations so far and the tree are this operand
abbrev pub invariant-loop-op : goal.invariant-loop-op
invariant-loop-op l = MakesUp (Has part.operand) (Has part.operand) l.fn.stack l.fn.tree l.stack l.operand

abbrev pub decreases-loop-op : goal.decreases-loop-op
decreases-loop-op l = length l.stack

use Rattle.nextest_filtering_syntax.proofs.Steps.{makes_negation}
use Rattle.nextest_filtering_syntax.proofs.parser.negated.Goals as goal

pub loop-op-preserved : goal.loop-op-preserved
loop-op-preserved c = makes_negation _ _ _ _ _ _ _ c.loop-op.invariant c.in-Some.ensures.some c.in_ok-operand.ensures.tree c.in_ok-operand.ensures.placed c.in_ok-operand.ensures.stands

use Rattle.nextest_filtering_syntax.proofs.Walking.{weight_with}
use Rattle.nextest_filtering_syntax.proofs.tree.ParsedExpr.drop.Given as goal

abbrev pub decreases-loop-self : goal.decreases-loop-self
decreases-loop-self l = weight_with l.self l.waiting

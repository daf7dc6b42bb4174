use Rattle.std.proofs.Common.{length}
use Rattle.nextest_filtering_filters.specs.Steps.{formula_of}
use Rattle.nextest_filtering_filters.proofs.StepsBack.{GotBack}
use Rattle.nextest_filtering_filters.proofs.formula.Formula.questions.Given as goal

abbrev pub invariant-loop-step : goal.invariant-loop-step
invariant-loop-step l = GotBack l.leaves (formula_of l.self) l.left l.list.items l.pending.items l.first

abbrev pub decreases-loop-step : goal.decreases-loop-step
decreases-loop-step l = length l.left

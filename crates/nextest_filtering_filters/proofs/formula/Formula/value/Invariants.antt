use Rattle.nextest_filtering_filters.specs.Steps.{formula_of}
use Rattle.nextest_filtering_filters.specs.Values.{may_by, values_at}
use Rattle.nextest_filtering_filters.proofs.Waiting.{GotTo}
use Rattle.nextest_filtering_filters.proofs.formula.Formula.value.Given as goal

abbrev pub invariant-loop-step : goal.invariant-loop-step
invariant-loop-step l = GotTo (may_by (values_at l.leaves)) l.step-items l.step-index (formula_of l.step-items) l.waiting.items

use Rattle.nextest_filtering_filters.specs.Steps.{formula_of}
use Rattle.nextest_filtering_filters.specs.Values.{may_by, values_at}
use Rattle.nextest_filtering_filters.proofs.Waiting.{goes_on}
use Rattle.nextest_filtering_filters.proofs.formula.Formula.value.Goals as goal

pub loop-step-preserved : goal.loop-step-preserved
loop-step-preserved c =
    let steps = c.deref-step-items.result.now in
    goes_on (may_by (values_at c.args.leaves.now)) steps c.loop-step.step-index (formula_of steps) c.loop-step.waiting.items c.take_step.new.waiting.items _ c.loop-step-test.true c.loop-step.invariant c.in_ok-take_step.ensures

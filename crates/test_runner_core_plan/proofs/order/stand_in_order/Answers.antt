use Rattle.std.proofs.Common.{rules, of_calls}
use Rattle.std.proofs.lemmas.Fn.{always_returns_same}
use Rattle.std.specs.Ordering.{is_le}
use Rattle.test_runner_core_plan.specs.Order.{plan_cmp}
use Rattle.test_runner_core_plan.proofs.OneOrder.{plans_compare}
use Rattle.test_runner_core_plan.proofs.Rising.{rises}
use Rattle.test_runner_core_plan.proofs.order.stand_in_order.Goals as goal

pub returns : goal.returns
returns c =
    rises plan_cmp plans_compare c.args.tests.now c.is_sorted_by.result
    (c.is_sorted_by.ensures.cases (λ a b. is_le (plan_cmp a b)) (always_returns_same _ _ _ (λ a r f k. search (rules, of_calls))))

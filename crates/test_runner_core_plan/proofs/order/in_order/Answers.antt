use Rattle.std.proofs.Common.{List, rules, of_calls, subst, sym, ◌∙◌}
use Rattle.std.proofs.lemmas.Fn.{always_returns_same}
use Rattle.std.proofs.lemmas.List.MinMax.{ranks_by}
use Rattle.std.proofs.lemmas.List.Sorted.{IsPermutation-trans}
use Rattle.std.specs.List.Sorted.{IsPermutation, IsSorted}
use Rattle.std.specs.Ordering.{is_lt}
use Rattle.test_runner_core_plan.specs.Order.{plan_cmp}
use Rattle.test_runner_core_plan.specs.declared.plan.PlanTest.{PlanTest}
use Rattle.test_runner_core_plan.proofs.OneOrder.{plans_compare}
use Rattle.test_runner_core_plan.proofs.order.in_order.Goals as goal

pub returns-then-stand_in_order-clause-order : goal.returns-then-stand_in_order-clause-order
returns-then-stand_in_order-clause-order c =
    subst (λ (tests : List PlanTest). IsSorted plan_cmp tests) (c.as_slice.ensures.value ∙ sym c.from.ensures) (c.stand_in_order.ensures c.if-stand_in_order.true)

pub returns-clause-order : goal.returns-clause-order
returns-clause-order c =
    let sorted = c.sort_unstable_by.ensures.sorted (λ a b. is_lt (plan_cmp a b)) (ranks_by plans_compare (λ (it : PlanTest). it)) (always_returns_same _ _ _ (λ a r f k. search (rules, of_calls))) in
    subst (λ (tests : List PlanTest). IsSorted plan_cmp tests) (sym c.from-2.ensures) sorted

pub returns-clause-same : goal.returns-clause-same
returns-clause-same c =
    subst (IsPermutation c.args.tests.items) (sym c.from-2.ensures)
    (IsPermutation-trans c.args.tests.items _ _ c.sort_by_keys.ensures c.sort_unstable_by.ensures.permutation)

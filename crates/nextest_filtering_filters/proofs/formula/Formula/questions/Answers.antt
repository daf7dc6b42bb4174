use Rattle.std.proofs.Common.{rules, sym, ap, ◌∙◌, subst, ◌∷◌, [], ◌++◌, List}
use Rattle.nextest_filtering_filters.specs.Steps.{IsOf, formula_of}
use Rattle.nextest_filtering_filters.specs.declared.questions.Pending.{Pending}
use Rattle.nextest_filtering_filters.specs.declared.step.FormulaStep.{FormulaStep}
use Rattle.nextest_filtering_filters.proofs.StepsBack.{last_exits, got_all, got_back, got_to_front}
use Rattle.nextest_filtering_filters.proofs.formula.Formula.questions.Goals as goal

pub loop-step-init : goal.loop-step-init
loop-step-init c =
    let steps = c.args.self.now in
    let items = c.as_slice-left.ensures.value ∙ c.self.view_is in
    got_all c.args.leaves.now (formula_of steps) c.as_slice-left.result.now c.new-list.result.items c.push.new.self.items
    (subst (λ (l : List FormulaStep). IsOf l (formula_of steps)) (sym items) (subst (λ (l : List FormulaStep). IsOf l (formula_of l)) c.self.view_is c.self.invariant))
    c.new-list.ensures.items (c.in_ok-push.ensures.items ∙ ap (λ (l : List Pending). l ++ last_exits ∷ []) c.new-pending.ensures.items)

pub step_back-requires-clause-last : goal.step_back-requires-clause-last
step_back-requires-clause-last c = c.loop-step.invariant.within

pub step_back-requires-clause-pending : goal.step_back-requires-clause-pending
step_back-requires-clause-pending c = c.loop-step.invariant.all_within

pub loop-step-preserved : goal.loop-step-preserved
loop-step-preserved c =
    let l = c.loop-step in
    got_back c.args.leaves.now (formula_of c.args.self.now) l.left.now c.in-Some.front.now c.in-Some.step.now l.list.items c.step_back.new.list.items l.pending.items c.step_back.new.pending.items l.first c.in_ok-first.first
    (search rules)
    c.in_ok-first.ensures.last c.in_ok-first.ensures.pending
    (λ answer may. λ formulas next made. c.in_ok-first.ensures.reach answer may formulas next made) l.invariant

pub returns : goal.returns
returns c =
    let l = c.loop-step in
    got_to_front c.args.leaves.now (formula_of c.args.self.now) l.left.now l.list.items l.pending.items l.first (search rules) l.invariant

use Rattle.std.proofs.Common.{arith}
use Rattle.std.proofs.lemmas.List.Elements.{All-nil}
use Rattle.test_runner_core_listing.specs.Answers.{CanHold}
use Rattle.test_runner_core_listing.proofs.Asked.{all_are, not_all, one_more, put_back}
use Rattle.test_runner_core_listing.proofs.listing.is_listed.Goals as goal

pub returns-in_err-can_hold-clause-same : goal.returns-in_err-can_hold-clause-same
returns-in_err-can_hold-clause-same c =
    put_back c.loop-evaluator.evaluators c.args.evaluators.now c.loop-evaluator.evaluator-index c.evaluator-item.result _ c.can_hold.ensures.same c.loop-evaluator.invariant.same

pub returns-then-not-branch : goal.returns-then-not-branch
returns-then-not-branch c =
    let now = c.loop-evaluator.evaluators in
    let initial = c.args.evaluators.now in
    let place = c.loop-evaluator.evaluator-index in
    let one = c.evaluator-item.result in
    let same = c.loop-evaluator.invariant.same in
    record {
      value = not_all CanHold now initial place one c.in_ok-can_hold.field-0 (omega arith) same c.in_ok-can_hold.ensures.value c.if-not-branch.true;
      same = put_back now initial place one _ c.in_ok-can_hold.ensures.same same;
    }

pub loop-evaluator-init : goal.loop-evaluator-init
loop-evaluator-init c = record { same = λ i. c.args.evaluators.now; can = All-nil CanHold }

pub loop-evaluator-preserved : goal.loop-evaluator-preserved
loop-evaluator-preserved c =
    let now = c.loop-evaluator.evaluators in
    let initial = c.args.evaluators.now in
    let place = c.loop-evaluator.evaluator-index in
    let one = c.evaluator-item.result in
    let before = c.loop-evaluator.invariant in
    record {
      same = put_back now initial place one _ c.in_ok-can_hold.ensures.same before.same;
      can = one_more CanHold now initial place one (omega arith) before.same before.can (c.in_ok-can_hold.ensures.value.0 c.if-not-branch.false);
    }

pub returns-clause-value : goal.returns-clause-value
returns-clause-value c = all_are CanHold c.args.evaluators.now c.loop-evaluator.evaluator-index (omega arith) c.loop-evaluator.invariant.can

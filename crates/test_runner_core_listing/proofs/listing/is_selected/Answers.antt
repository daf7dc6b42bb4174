use Rattle.std.proofs.Common.{arith}
use Rattle.std.proofs.lemmas.List.Elements.{All-nil}
use Rattle.test_runner_core_listing.specs.Answers.{HoldsOn}
use Rattle.test_runner_core_listing.proofs.Asked.{all_are, not_all, one_more, put_back}
use Rattle.test_runner_core_listing.proofs.listing.is_selected.Goals as goal

pub returns-in_err-holds_on-clause-same : goal.returns-in_err-holds_on-clause-same
returns-in_err-holds_on-clause-same g c =
    put_back c.loop-evaluator.evaluators c.args.evaluators.now c.loop-evaluator.evaluator-index c.evaluator-item.result _ c.holds_on.ensures.same c.loop-evaluator.invariant.same

pub returns-then-not-branch : goal.returns-then-not-branch
returns-then-not-branch g c =
    let Holds = HoldsOn c.args.name.now (g.G.GroupLookup.member c.args.groups.now) in
    let now = c.loop-evaluator.evaluators in
    let initial = c.args.evaluators.now in
    let place = c.loop-evaluator.evaluator-index in
    let one = c.evaluator-item.result in
    let same = c.loop-evaluator.invariant.same in
    record {
      value = not_all Holds now initial place one c.in_ok-holds_on.field-0 (omega arith) same c.in_ok-holds_on.ensures.value c.if-not-branch.true;
      same = put_back now initial place one _ c.in_ok-holds_on.ensures.same same;
    }

pub loop-evaluator-init : goal.loop-evaluator-init
loop-evaluator-init g c = record { same = λ i. c.args.evaluators.now; hold = All-nil (HoldsOn c.args.name.now (g.G.GroupLookup.member c.args.groups.now)) }

pub loop-evaluator-preserved : goal.loop-evaluator-preserved
loop-evaluator-preserved g c =
    let Holds = HoldsOn c.args.name.now (g.G.GroupLookup.member c.args.groups.now) in
    let now = c.loop-evaluator.evaluators in
    let initial = c.args.evaluators.now in
    let place = c.loop-evaluator.evaluator-index in
    let one = c.evaluator-item.result in
    let before = c.loop-evaluator.invariant in
    record {
      same = put_back now initial place one _ c.in_ok-holds_on.ensures.same before.same;
      hold = one_more Holds now initial place one (omega arith) before.same before.hold (c.in_ok-holds_on.ensures.value.0 c.if-not-branch.false);
    }

pub returns-clause-value : goal.returns-clause-value
returns-clause-value g c =
    all_are (HoldsOn c.args.name.now (g.G.GroupLookup.member c.args.groups.now)) c.args.evaluators.now c.loop-evaluator.evaluator-index (omega arith) c.loop-evaluator.invariant.hold

use Rattle.std.proofs.Common.{arith, rules, sym, ap, ◌∙◌, List, take}
use Rattle.nextest_filtering_filters.specs.Filter.{leaf_at}
use Rattle.nextest_filtering_filters.specs.Questions.{at_exits, at_next, outcomes}
use Rattle.nextest_filtering_filters.specs.declared.questions.Question.{Question}
use Rattle.nextest_filtering_filters.proofs.ByName.{one_leaf}
use Rattle.nextest_filtering_filters.proofs.StepsBack.{asked_at, asked_nowhere}
use Rattle.nextest_filtering_filters.proofs.asked.answer.Goals as goal

pub loop-next-init : goal.loop-next-init
loop-next-init c = record {
  stays = λ binary leaves all. all;
  comes = λ binary leaves answer all are. ap (λ (l : List Question). at_next (outcomes answer l) c.args.questions.now.first) c.as_slice-list.ensures.value;
}

pub returns-in-Value-clause-value : goal.returns-in-Value-clause-value
returns-in-Value-clause-value c = λ binary leaves answer all are.
    sym (ap (at_next (outcomes answer c.loop-next.list.now)) c.in-Value.is) ∙ c.loop-next.invariant.comes binary leaves answer all are

pub returns-in-Value-clause-stays : goal.returns-in-Value-clause-stays
returns-in-Value-clause-stays c = c.loop-next.invariant.stays

pub returns-in_default-clause-value : goal.returns-in_default-clause-value
returns-in_default-clause-value c = λ binary leaves answer all are.
    let list = c.loop-next.list.now in
    sym (asked_nowhere answer list c.in-Question.place (omega (arith, c.in_default.ensures.lookup))) ∙ sym (ap (at_next (outcomes answer list)) c.in-Question.is) ∙ c.loop-next.invariant.comes binary leaves answer all are

pub returns-in_default-clause-stays : goal.returns-in_default-clause-stays
returns-in_default-clause-stays c = c.loop-next.invariant.stays

pub returns-in_err-answer-clause-stays : goal.returns-in_err-answer-clause-stays
returns-in_err-answer-clause-stays c = λ binary leaves all. c.on_name.ensures.stays binary leaves (c.loop-next.invariant.stays binary leaves all)

pub loop-next-preserved : goal.loop-next-preserved
loop-next-preserved c = record {
  stays = λ binary leaves all. c.in_ok-answer.ensures.stays binary leaves (c.loop-next.invariant.stays binary leaves all);
  comes = λ binary leaves answer all are.
      let list = c.loop-next.list.now in
      let question = c.in-Some.question.now in
      let come = outcomes answer (take c.in-Question.place list) in
      let told = c.in_ok-answer.ensures.value binary leaves (c.loop-next.invariant.stays binary leaves all) in
      ap (at_next come) c.of-next.ensures
      ∙ ap (at_exits come question.exits) (one_leaf binary c.args.name.now c.args.default (leaf_at leaves question.leaf) c.in_ok-answer.answer (answer question.leaf) told (are question.leaf))
      ∙ sym (asked_at answer list c.in-Question.place question (search rules) c.in-Some.ensures.lookup.1) ∙ sym (ap (at_next (outcomes answer list)) c.in-Question.is)
      ∙ c.loop-next.invariant.comes binary leaves answer all are;
}

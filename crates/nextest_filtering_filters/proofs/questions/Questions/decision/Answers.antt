use Rattle.std.proofs.Common.{◌≡◌, List, rules, subst}
use Rattle.nextest_filtering_filters.specs.Questions.{at_next, decided, outcomes}
use Rattle.nextest_filtering_filters.specs.declared.questions.Question.{Question}
use Rattle.nextest_filtering_filters.proofs.StepsBack.{decided_by}
use Rattle.nextest_filtering_filters.proofs.questions.Questions.decision.Goals as goal

pub returns-in-Value-Value : goal.returns-in-Value-Value
returns-in-Value-Value c = λ answer.
    let question = c.in_ok-question.question.now in
    let exits = c.in-Value-Value in
    let first = c.args.self.now.first in
    subst
    (λ (list : List Question). at_next (outcomes answer list) first ≡ decided (record { leaf = question.leaf; if_true = exits.if_true; if_false = exits.if_false }) (answer question.leaf))
    c.as_slice.ensures.value
    (decided_by answer c.as_slice.result.now first c.in-Question.place question exits.if_true exits.if_false c.in-Question.is (search rules) c.in_ok-question.ensures.lookup.1 exits.is-0 exits.is-1)

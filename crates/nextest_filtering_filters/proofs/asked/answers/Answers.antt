use Rattle.std.proofs.Common.{◌∙◌, Bool, Bor, List, ℕ, false, sym, subst}
use Rattle.std.proofs.lemmas.Result.{IfOk-weaker}
use Rattle.nextest_filtering_filters.specs.Asking.{IsAnswer, IsFor}
use Rattle.nextest_filtering_filters.specs.Filter.{leaf_at}
use Rattle.nextest_filtering_filters.proofs.ByName.{asked_for}
use Rattle.nextest_filtering_filters.proofs.Lists.{zip_set, zip_weaker}
use Rattle.nextest_filtering_filters.proofs.asked.answers.Goals as goal

pub returns-in-Some-clause-values : goal.returns-in-Some-clause-values
returns-in-Some-clause-values c =
    let it = c.in-Some.decision in
    IfOk-weaker c.decided_answers.result _ _
    (λ values told. zip_weaker _ (λ (name : Bor (List ℕ)) (value : Bool). IsAnswer c.args.asked.now c.args.questions.now false name.now value)
    (λ name value one. λ binary leaves answer all are.
    one binary (leaf_at leaves it.leaf) (answer it.leaf) (asked_for (IsFor binary) leaves c.args.asked.now it.leaf c.index-asked-decision.result c.if-decision-asked.true all) (are it.leaf)
    ∙ sym (c.in-Some.ensures answer))
    c.args.names.now values.items told)
    c.decided_answers.ensures.values

pub returns-in-Some-clause-stays : goal.returns-in-Some-clause-stays
returns-in-Some-clause-stays c = λ binary leaves all.
    zip_set (IsFor binary) leaves c.args.asked.now c.in-Some.decision.leaf c.index-asked-decision.result c.decided_answers.new.asked c.if-decision-asked.true c.index-asked-decision.is
    (λ leaf is. c.decided_answers.ensures.stays binary leaf (subst (IsFor binary leaf) c.index-asked-decision.is is)) all

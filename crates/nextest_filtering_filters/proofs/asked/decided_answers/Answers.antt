use Rattle.std.proofs.Common.{◌≡◌, Bool, Bor, List, ℕ, false}
use Rattle.std.proofs.lemmas.Result.{IfOk-weaker}
use Rattle.nextest_filtering_filters.specs.Asking.{IsDecided}
use Rattle.nextest_filtering_filters.proofs.Lists.{zip_weaker}
use Rattle.nextest_filtering_filters.proofs.asked.decided_answers.Goals as goal

pub returns-in-Some-clause-values : goal.returns-in-Some-clause-values
returns-in-Some-clause-values c =
    IfOk-weaker c.contained_answers.result _ _
    (λ values told. zip_weaker _
    (λ (name : Bor (List ℕ)) (value : Bool). IsDecided c.args.asked.now c.args.decision name.now value)
    (λ name value one. λ binary leaf answer is tells. one answer (c.in-Some.ensures binary leaf name.now answer is tells))
    c.args.names.now values.items told)
    c.contained_answers.ensures

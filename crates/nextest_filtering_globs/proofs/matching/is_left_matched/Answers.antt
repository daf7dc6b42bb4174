use Rattle.std.proofs.Common.{◌==◌, ℕ, List, IsTrue, ap, sym, subst, ◌∙◌}
use Rattle.std.specs.Prelude.{◌↔◌}
use Rattle.std.proofs.lemmas.Result.{IfOk-weaker}
use Rattle.nextest_filtering_globs.specs.Meaning.{Matches}
use Rattle.nextest_filtering_globs.proofs.Singles.{none_left}
use Rattle.nextest_filtering_globs.proofs.matching.is_left_matched.Goals as goal

pub returns-then-is_empty : goal.returns-then-is_empty
returns-then-is_empty g c =
    none_left c.args.tokens.now (g.C.Character.codes c.args.text.now) c.is_empty-then-is_empty.result (sym c.is_empty.ensures ∙ c.if-is_empty.true)
    (c.is_empty-then-is_empty.ensures ∙ ap (λ (n : ℕ). n == 0) (sym (g.met.C.Character.counted c.args.text.now)))

pub returns : goal.returns
returns g c =
    IfOk-weaker c.is_walked.result _ (λ answer. IsTrue answer ↔ Matches c.args.tokens.now (g.C.Character.codes c.args.text.now))
    (λ answer both. subst (λ (text : List ℕ). IsTrue answer ↔ Matches c.args.tokens.now text) (c.as_slice.ensures.value ∙ c.in_ok-read_each.ensures) both) c.is_walked.ensures

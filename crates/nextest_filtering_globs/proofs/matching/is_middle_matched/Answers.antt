use Rattle.std.proofs.Common.{IsTrue}
use Rattle.std.specs.Prelude.{◌↔◌}
use Rattle.std.proofs.lemmas.Result.{IfOk-weaker}
use Rattle.nextest_filtering_globs.specs.Meaning.{Matches}
use Rattle.nextest_filtering_globs.proofs.matching.is_middle_matched.Goals as goal

pub returns : goal.returns
returns g c =
    let words = c.in-Some.ensures in
    IfOk-weaker c.is_choice_matched.result _ (λ answer. IsTrue answer ↔ Matches c.args.tokens.now (g.C.Character.codes c.args.text.now))
    (λ answer both. (λ b. words.1.1 (both.0 b), λ m. both.1 (words.1.0 m))) c.is_choice_matched.ensures

use Rattle.std.proofs.Common.{◌∷◌, ◌∙◌, ap}
use Rattle.nextest_filtering_globs.proofs.Gaps.{by_letter}
use Rattle.nextest_filtering_globs.proofs.words.from_first.Goals as goal

pub returns-in-Some-Literal-default-clause-ahead : goal.returns-in-Some-Literal-default-clause-ahead
returns-in-Some-Literal-default-clause-ahead g c =
    let begun = c.in-Some-Literal-default in
    by_letter c.args.word.now begun.field-0-1.now _ (g.C.Character.codes c.args.text.now) (g.C.Character.codes c.from_letter.result.now)
    (begun.ensures.cases.0 ∙ ap (λ x. x ∷ begun.field-0-1.now) begun.field-0-0-is) c.from_letter.ensures.ahead

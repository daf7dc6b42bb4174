use Rattle.std.proofs.Common.{◌≡◌, ◌∷◌, sym, ◌∙◌, ap}
use Rattle.nextest_filtering_globs.specs.declared.token.GlobToken.TheVariants as token
use Rattle.nextest_filtering_globs.proofs.Singles.{asterisk_matches}
use Rattle.nextest_filtering_globs.proofs.matching.is_asterisk.Goals as goal

pub returns-in-Some-ZeroOrMore-default : goal.returns-in-Some-ZeroOrMore-default
returns-in-Some-ZeroOrMore-default c = λ h.
    let begun = c.in-Some-ZeroOrMore-default in
    let first : begun.field-0-0.now ≡ token.ZeroOrMore = begun.field-0-0-is in
    asterisk_matches c.args.tokens.now begun.more.now (begun.ensures.cases.0 ∙ ap (λ x. x ∷ begun.more.now) first)
    (sym c.is_empty.ensures ∙ h)

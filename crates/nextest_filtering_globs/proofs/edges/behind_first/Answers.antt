use Rattle.std.proofs.Common.{sym, ap, ◌∙◌}
use Rattle.std.proofs.lemmas.Bool.{false≢true}
use Rattle.nextest_filtering_globs.specs.Inside.{fits}
use Rattle.nextest_filtering_globs.proofs.Codes.{first_code, first_same}
use Rattle.nextest_filtering_globs.proofs.edges.behind_first.Goals as goal

pub returns-then-fits : goal.returns-then-fits
returns-then-fits g c =
    let codes = g.C.Character.codes in
    let split = c.in_ok-c in (
      c.character.result,
      ap codes split.ensures.cases.0 ∙ first_code codes g.met.C.Character.joined split.c.now c.character.result split.rest.now c.character.ensures,
      sym c.fits.ensures ∙ c.if-fits.true,
    )

pub returns-else-fits : goal.returns-else-fits
returns-else-fits g c = λ d rest is so.
    let codes = g.C.Character.codes in
    let split = c.in_ok-c in
    let begun = ap codes split.ensures.cases.0 ∙ first_code codes g.met.C.Character.joined split.c.now c.character.result split.rest.now c.character.ensures in
    let same = first_same c.character.result d (codes split.rest.now) rest (sym begun ∙ is) in
    false≢true (sym c.if-fits.false ∙ c.fits.ensures ∙ ap (fits c.args.token.now) same ∙ so)

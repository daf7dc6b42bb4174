use Rattle.std.proofs.Common.{ap, ◌∙◌, arith}
use Rattle.nextest_filtering_globs.proofs.Codes.{first_code}
use Rattle.nextest_filtering_globs.proofs.Gaps.{letter_later}
use Rattle.nextest_filtering_globs.proofs.words.from_letter.Goals as goal

pub loop-c-preserved : goal.loop-c-preserved
loop-c-preserved g c =
    let l = c.loop-c in
    let codes = g.C.Character.codes in
    let begun = c.in-Some in
    let first = ap codes begun.ensures.cases.0 ∙ first_code codes g.met.C.Character.joined begun.c.now c.character.result begun.later.now c.character.ensures in
    record {
      within = omega (arith, l.invariant.within, begun.ensures.cases.1);
      ahead = letter_later c.args.letter c.character.result (g.C.Character.codes c.args.text.now) (g.C.Character.codes l.rest.now) (g.C.Character.codes begun.later.now) first
          c.if-character-letter.false l.invariant.ahead;
    }

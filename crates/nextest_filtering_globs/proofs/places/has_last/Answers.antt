use Rattle.std.proofs.Common.{◌-◌, false, length, ◌∙◌, arith}
use Rattle.nextest_filtering_globs.proofs.Loops.{last_at}
use Rattle.nextest_filtering_globs.proofs.places.has_last.Goals as goal

pub returns-in-Some : goal.returns-in-Some
returns-in-Some c =
    let places = c.args.places.now in
    let there = c.in-Some.ensures.item.3 in
    there.1 false ∙ last_at places (length places - 1) (omega (arith, there.0))

use Rattle.std.proofs.Common.{◌-◌, ◌==◌, false, arith}
use Rattle.nextest_filtering_globs.specs.Inside.{next_places}
use Rattle.nextest_filtering_globs.proofs.Loops.{moved_turn}
use Rattle.nextest_filtering_globs.proofs.places.advance_letter.Goals as goal

pub loop-place-preserved : goal.loop-place-preserved
loop-place-preserved c =
    let l = c.loop-place in
    moved_turn (λ x. x == c.args.letter) c.args.text.now (next_places (λ x. x == c.args.letter) false c.args.text.now c.args.places.now)
    l.places l.place (l.place - 1) c.index-text-place.result (omega arith) (omega arith) (omega arith) c.index-text-place.is
    l.invariant

use Rattle.std.proofs.Common.{◌≡◌, false, length, subst, arith}
use Rattle.std.proofs.Math.ListN.{set}
use Rattle.nextest_filtering_globs.specs.Inside.{fits, next_places}
use Rattle.nextest_filtering_globs.proofs.Loops.{moved_end}
use Rattle.nextest_filtering_globs.proofs.places.advance_fitting.Goals as goal

pub returns : goal.returns
returns c =
    let l = c.loop-place in
    let whole = next_places (fits c.args.token.now) false c.args.text.now c.args.places.now in
    let ended : l.place ≡ length c.args.text.now = omega arith in
    subst (λ i. set l.places i l.carried ≡ whole) ended
    (moved_end (fits c.args.token.now) l.carried c.args.text.now whole l.places l.place ended (omega arith) l.invariant)

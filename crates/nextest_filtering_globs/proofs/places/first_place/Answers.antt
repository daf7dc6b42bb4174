use Rattle.std.proofs.Common.{arith}
use Rattle.nextest_filtering_globs.proofs.Loops.{later_found}
use Rattle.nextest_filtering_globs.proofs.places.first_place.Goals as goal

pub returns-then-is_there-clause-first : goal.returns-then-is_there-clause-first
returns-then-is_there-clause-first c =
    let l = c.loop-place in
    later_found c.args.places.now l.place (omega arith) c.if-is_there.true l.invariant

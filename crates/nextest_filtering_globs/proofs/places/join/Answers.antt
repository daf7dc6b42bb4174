use Rattle.std.proofs.Common.{arith}
use Rattle.nextest_filtering_globs.specs.Inside.{either_of}
use Rattle.nextest_filtering_globs.proofs.Loops.{either_step}
use Rattle.nextest_filtering_globs.proofs.places.join.Goals as goal

pub loop-place-preserved : goal.loop-place-preserved
loop-place-preserved c =
    let l = c.loop-place in
    either_step (either_of c.args.places.now c.args.others.now) l.places c.args.others.now l.place (omega arith) (omega arith)
    l.invariant

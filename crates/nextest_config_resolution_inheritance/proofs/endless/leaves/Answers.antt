use Rattle.std.proofs.Common.{arith, refl}
use Rattle.nextest_config_resolution_inheritance.proofs.Walks.{fewer, steps, turned}
use Rattle.nextest_config_resolution_inheritance.proofs.endless.leaves.Goals as goal

pub loop-place-preserved : goal.loop-place-preserved
loop-place-preserved c =
    (refl, steps c.args.parents.now c.loop-place.walks c.args.start c.loop-place.place c.requires.within c.loop-place-test.true c.if-walks-place.true c.loop-place.invariant.1)

pub returns-else-place-end-clause-endless : goal.returns-else-place-end-clause-endless
returns-else-place-end-clause-endless c =
    turned c.args.parents.now c.loop-place.walks c.args.start c.loop-place.place c.requires.within c.loop-place.invariant.1 c.if-place-end.false _ refl

pub loop-place-smaller : goal.loop-place-smaller
loop-place-smaller c =
    fewer c.args.parents.now c.loop-place.walks c.args.start c.loop-place.place c.requires.within (omega (arith, c.loop-place.invariant.1.each, c.loop-place-test.true)) c.if-walks-place.true

use Rattle.test_runner_core_listing.specs.Hashed.{hash}
use Rattle.test_runner_core_listing.proofs.Lent.{one_told}
use Rattle.test_runner_core_listing.proofs.distinct.hashes_of.Goals as goal

pub loop-name-preserved : goal.loop-name-preserved
loop-name-preserved c =
    one_told hash c.args.names.now c.loop-name.name-index c.hash_of.result c.loop-name.hashes.items c.push.new.self.items c.loop-name-test.true c.hash_of.ensures c.loop-name.invariant
    c.in_ok-push.ensures.items

use Rattle.nextest_filtering_compiling.proofs.Behind.{banned_more}
use Rattle.nextest_filtering_compiling.proofs.bans.banned_in.Goals as goal

pub loop-leaf-preserved : goal.loop-leaf-preserved
loop-leaf-preserved c =
    banned_more c.args.kind c.args.leaves.now c.loop-leaf.leaf-index c.leaf-item.result c.loop-leaf.found.items c.add_ban.new.found.items c.loop-leaf-test.true c.leaf-item.is
    c.loop-leaf.invariant c.in_ok-add_ban.ensures

use Rattle.std.proofs.Common.{arith}
use Rattle.nextest_filtering_filters.specs.Asking.{IsFor}
use Rattle.nextest_filtering_filters.specs.Query.{binary_of}
use Rattle.nextest_filtering_filters.proofs.Lists.{zip_more}
use Rattle.nextest_filtering_filters.proofs.part.asked_of.Goals as goal

pub loop-leaf-preserved : goal.loop-leaf-preserved
loop-leaf-preserved c =
    zip_more (IsFor (binary_of c.args.binary.now)) c.args.leaves.now c.loop-leaf.asked.items c.push.new.self.items c.loop-leaf.leaf-index c.leaf-item.result c.in_ok-new.field-0 (omega arith) c.leaf-item.is
    c.in_ok-push.ensures.items c.in_ok-new.ensures c.loop-leaf.invariant

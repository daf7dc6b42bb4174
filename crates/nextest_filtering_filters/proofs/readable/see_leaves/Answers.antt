use Rattle.std.proofs.Common.{arith, subst}
use Rattle.std.proofs.lemmas.List.Elements.{All-more}
use Rattle.nextest_filtering_filters.specs.Deciding.{HasReadable}
use Rattle.nextest_filtering_filters.proofs.Lists.{all_end}
use Rattle.nextest_filtering_filters.proofs.readable.see_leaves.Goals as goal

pub loop-leaf-preserved : goal.loop-leaf-preserved
loop-leaf-preserved c =
    All-more HasReadable c.args.leaves.now c.loop-leaf.leaf-index c.leaf-item.result (omega arith) c.loop-leaf.invariant (subst HasReadable c.leaf-item.is c.see_leaf.ensures)

pub returns : goal.returns
returns c = all_end HasReadable c.args.leaves.now c.loop-leaf.leaf-index (omega arith) c.loop-leaf.invariant

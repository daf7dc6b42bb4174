use Rattle.std.proofs.Common.{take}
use Rattle.std.specs.List.{All}
use Rattle.nextest_filtering_filters.specs.Deciding.{HasReadable}
use Rattle.nextest_filtering_filters.proofs.readable.see_leaves.Given as goal

abbrev pub invariant-loop-leaf : goal.invariant-loop-leaf
invariant-loop-leaf l = All HasReadable (take l.leaf-index l.leaves)

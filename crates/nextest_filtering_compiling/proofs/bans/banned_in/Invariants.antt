use Rattle.std.proofs.Common.{◌≡◌, map, take}
use Rattle.nextest_filtering_compiling.specs.Bans.{bans_of}
use Rattle.nextest_filtering_compiling.specs.Leaves.{behind}
use Rattle.nextest_filtering_compiling.proofs.bans.banned_in.Given as goal

abbrev pub invariant-loop-leaf : goal.invariant-loop-leaf
invariant-loop-leaf l = l.found.items ≡ bans_of l.kind (map behind (take l.leaf-index l.leaves))

use Rattle.std.proofs.Common.{take}
use Rattle.std.specs.List.{AllZip}
use Rattle.nextest_filtering_filters.specs.Asking.{IsFor}
use Rattle.nextest_filtering_filters.specs.Query.{binary_of}
use Rattle.nextest_filtering_filters.proofs.part.asked_of.Given as goal

abbrev pub invariant-loop-leaf : goal.invariant-loop-leaf
invariant-loop-leaf l = AllZip (IsFor (binary_of l.binary)) (take l.leaf-index l.leaves) l.asked.items

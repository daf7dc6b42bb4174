use Rattle.std.proofs.Common.{List, take}
use Rattle.std.specs.List.{AllZip}
use Rattle.nextest_filtering_filters.specs.Asking.{AreOn, IsFor}
use Rattle.nextest_filtering_filters.specs.Query.{Binary}
use Rattle.nextest_filtering_filters.specs.declared.leaf.FiltersetLeaf.{FiltersetLeaf}
use Rattle.nextest_filtering_filters.proofs.part.values_on_binary.Given as goal

abbrev pub invariant-loop-it : goal.invariant-loop-it
invariant-loop-it l = (binary : Binary) (leaves : List FiltersetLeaf) → AllZip (IsFor binary) leaves l.asked → AllZip (AreOn binary l.default) (take l.it-index leaves) l.values.items

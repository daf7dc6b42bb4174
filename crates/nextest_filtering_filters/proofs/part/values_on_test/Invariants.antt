use Rattle.std.proofs.Common.{List, take}
use Rattle.std.specs.List.{AllZip}
use Rattle.nextest_filtering_filters.specs.Asking.{AreLeafValues, IsFor}
use Rattle.nextest_filtering_filters.specs.Query.{Binary, test_of}
use Rattle.nextest_filtering_filters.specs.declared.leaf.FiltersetLeaf.{FiltersetLeaf}
use Rattle.nextest_filtering_filters.proofs.part.values_on_test.Given as goal

abbrev pub invariant-loop-it : goal.invariant-loop-it
invariant-loop-it g l = (binary : Binary) (leaves : List FiltersetLeaf) → AllZip (IsFor binary) leaves l.initial.asked
    → AllZip (IsFor binary) leaves l.asked × AllZip (AreLeafValues binary (test_of l.test).name (g.G.GroupLookup.member l.groups (test_of l.test)) l.default) (take l.it-index leaves) l.values.items

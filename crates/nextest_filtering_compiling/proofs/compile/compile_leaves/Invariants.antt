use Rattle.std.proofs.Common.{◌≡◌, [], map, take}
use Rattle.nextest_filtering_compiling.specs.Compiling.{AreCompiled}
use Rattle.nextest_filtering_compiling.specs.Faults.{Have}
use Rattle.nextest_filtering_compiling.specs.Leaves.{behind}
use Rattle.nextest_filtering_compiling.proofs.compile.compile_leaves.Given as goal

abbrev pub invariant-loop-leaf : goal.invariant-loop-leaf
invariant-loop-leaf l = record {
  faults : Have l.cx l.known (map behind (take l.leaf-index l.leaves)) l.faults.items;
  made : l.faults.items ≡ [] → AreCompiled l.cx.graph (map behind (take l.leaf-index l.leaves)) l.made.items;
}

use Rattle.std.proofs.Common.{List, map, take, subst, sym}
use Rattle.nextest_filtering_ast.specs.declared.leaf.ParsedLeaf.{ParsedLeaf}
use Rattle.nextest_filtering_compiling.specs.Compiling.{AreCompiled}
use Rattle.nextest_filtering_compiling.specs.Faults.{Have}
use Rattle.nextest_filtering_compiling.specs.Leaves.{behind}
use Rattle.nextest_filtering_compiling.proofs.Behind.{behind_more}
use Rattle.nextest_filtering_compiling.proofs.Kept.{keeps_faults, keeps_made}
use Rattle.nextest_filtering_compiling.proofs.compile.compile_leaves.Goals as goal

pub loop-leaf-preserved : goal.loop-leaf-preserved
loop-leaf-preserved c =
    let front = map behind (take c.loop-leaf.leaf-index c.args.leaves.now) in
    let more = behind_more c.args.leaves.now c.loop-leaf.leaf-index c.leaf-item.result c.loop-leaf-test.true c.leaf-item.is in
    record {
      faults = subst (λ (leaves : List ParsedLeaf). Have c.args.cx.now c.args.known.now leaves c.keep.new.faults.items) (sym more)
          (keeps_faults c.args.cx.now c.args.known.now front c.leaf-item.result.now c.in_ok-compile_leaf.field-0 c.loop-leaf.made.items c.keep.new.made.items c.loop-leaf.faults.items c.keep.new.faults.items
          c.in_ok-compile_leaf.ensures c.in_ok-keep.ensures c.loop-leaf.invariant.faults);
      made = λ none. subst (λ (leaves : List ParsedLeaf). AreCompiled c.args.cx.now.graph leaves c.keep.new.made.items) (sym more)
          (keeps_made c.args.cx.now c.args.known.now front c.leaf-item.result.now c.in_ok-compile_leaf.field-0 c.loop-leaf.made.items c.keep.new.made.items c.loop-leaf.faults.items c.keep.new.faults.items
          c.in_ok-compile_leaf.ensures c.in_ok-keep.ensures c.loop-leaf.invariant.made none);
    }

use Rattle.std.proofs.Common.{◌≡◌, [], ◌∷◌, ◌++◌, length, ap, arith, subst}
use Rattle.std.proofs.lemmas.List.{length-map}
use Rattle.nextest_filtering_filters.specs.Steps.{waiting_of}
use Rattle.nextest_filtering_compiling.specs.Leaves.{behind, leaves_of, formula_of_tree}
use Rattle.nextest_filtering_compiling.specs.declared.shape.Task.{Task}
use Rattle.nextest_filtering_compiling.proofs.Stacks.{counts_tree}
use Rattle.nextest_filtering_compiling.proofs.shape.shape_of.Goals as goal

pub add-requires : goal.add-requires
add-requires c =
    let t = c.args.tree.now in
    let popped = subst (λ (it : Task). c.loop-task.tasks.items ≡ c.pop.new.self.items ++ it ∷ []) c.in-Add.is c.in-Some.ensures.items in
    omega (
      arith,
      counts_tree c.loop-task.tasks.items c.pop.new.self.items c.in-Add.part (waiting_of c.loop-task.builder) (formula_of_tree 0 t ∷ []) c.loop-task.next (length (leaves_of t)) popped c.loop-task.invariant,
      ap length c.requires,
      length-map c.args.leaves.now behind,
    )

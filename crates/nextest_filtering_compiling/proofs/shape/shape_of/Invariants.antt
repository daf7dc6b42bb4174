use Rattle.std.proofs.Common.{◌≡◌, Some, [], ◌∷◌, length, reverse, sum_by}
use Rattle.nextest_filtering_filters.specs.Steps.{waiting_of}
use Rattle.nextest_filtering_compiling.specs.Leaves.{leaves_of, formula_of_tree}
use Rattle.nextest_filtering_compiling.specs.Tasks.{done, work_in}
use Rattle.nextest_filtering_compiling.proofs.shape.shape_of.Given as goal

-- the tasks give the whole formula
abbrev pub invariant-loop-task : goal.invariant-loop-task
invariant-loop-task l = done (reverse l.tasks.items) (waiting_of l.builder) l.next ≡ Some (formula_of_tree 0 l.tree ∷ [], length (leaves_of l.tree))

abbrev pub decreases-loop-task : goal.decreases-loop-task
decreases-loop-task l = sum_by work_in l.tasks.items

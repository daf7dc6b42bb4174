use Rattle.std.proofs.Common.{◌≡◌, ◌++◌, map, sum_by}
use Rattle.nextest_filtering_compiling.specs.Leaves.{behind, leaves_of}
use Rattle.nextest_filtering_compiling.specs.Tasks.{work_of}
use Rattle.nextest_filtering_compiling.proofs.Stacks.{ahead}
use Rattle.nextest_filtering_compiling.proofs.leaves.leaves_of.Given as goal

-- what was found, and the predicates ahead, are all
abbrev pub invariant-loop-next : goal.invariant-loop-next
invariant-loop-next l = map behind l.found.items ++ ahead l.waiting.items ≡ leaves_of l.tree

abbrev pub decreases-loop-next : goal.decreases-loop-next
decreases-loop-next l = sum_by (λ it. work_of it.now) l.waiting.items

use Rattle.std.proofs.Common.{◌≡◌}
use Rattle.nextest_filtering_ast.specs.Runtime.{runtime_leaves}
use Rattle.nextest_filtering_syntax.specs.Parsed.{tree_of}
use Rattle.nextest_filtering_syntax.specs.Walking.{all_leaves, waiting_weight}
use Rattle.nextest_filtering_syntax.proofs.tree.ParsedExpr.runtime_only_leaves.Given as goal

-- what was found and what waits make up the whole
abbrev pub invariant-loop-tree : goal.invariant-loop-tree
invariant-loop-tree l = all_leaves l.found.items l.waiting.items ≡ runtime_leaves (tree_of l.self)

abbrev pub decreases-loop-tree : goal.decreases-loop-tree
decreases-loop-tree l = waiting_weight l.waiting.items

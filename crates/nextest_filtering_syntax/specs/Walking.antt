-- What waits while a tree is walked without recursion.
use Rattle.std.specs.Prelude.{◌≡◌, ℕ, ◌+◌, ◌*◌, Option, Some, None, List, [], ◌∷◌, ◌++◌, map}
use Rattle.std.specs.Borrow.{Bor}
use Rattle.std.specs.declared.alloc.Global.{Global}
use Rattle.std.specs.declared.boxed.Box.{Box}
use Rattle.nextest_filtering_ast.specs.declared.operators.OrOperator.TheVariants.{Pipe}
use Rattle.nextest_filtering_ast.specs.declared.leaf.ParsedLeaf.{ParsedLeaf}
use Rattle.nextest_filtering_ast.specs.Tree.{Leaf}
use Rattle.nextest_filtering_ast.specs.Runtime.{runtime_leaves, leaf_behind}
use Rattle.nextest_filtering_syntax.specs.declared.tree.ParsedExpr.{ParsedExpr}
use Rattle.nextest_filtering_syntax.specs.declared.tree.ParsedExpr.TheVariants as tree
use Rattle.nextest_filtering_syntax.specs.Parsed.{tree_of}

abbrev pub Boxed : Type 0
Boxed = Box ParsedExpr Global

-- what waits behind a left operand: the right one, which is joined with what waited before
abbrev pub IsPutOff : Boxed → Option Boxed → Boxed → Type 0
IsPutOff right None behind = behind.value ≡ right.value
IsPutOff right (Some waiting) behind = behind.value ≡ tree.Union Pipe right waiting

-- more than the steps that it takes to walk a tree; a left operand counts twice, since its box is
-- used once more
abbrev pub weight : ParsedExpr → ℕ
weight (tree.Not' op p t) = weight t + 1
weight (tree.Union' op p a q b) = 2 * weight a + weight b + 1
weight (tree.Intersection' op p a q b) = 2 * weight a + weight b + 1
weight (tree.Difference' op p a q b) = 2 * weight a + weight b + 1
weight (tree.Parens' p t) = weight t + 1
weight (tree.Set it) = 1

-- that of all trees that wait
abbrev pub waiting_weight : List (Bor ParsedExpr) → ℕ
waiting_weight [] = 0
waiting_weight (t ∷ rest) = waiting_weight rest + weight t.now

-- the predicates of trees that wait, of which the last one comes first
abbrev pub waiting_leaves : List (Bor ParsedExpr) → List Leaf
waiting_leaves [] = []
waiting_leaves (t ∷ rest) = waiting_leaves rest ++ runtime_leaves (tree_of t.now)

-- the predicates that were found, and then those of the trees that wait
abbrev pub all_leaves : List (Bor ParsedLeaf) → List (Bor ParsedExpr) → List Leaf
all_leaves found waiting = map leaf_behind found ++ waiting_leaves waiting

-- The predicates of a tree.
use Rattle.std.specs.Prelude.{ℕ, ◌+◌, List, [], ◌∷◌, ◌++◌, length}
use Rattle.std.specs.Borrow.{Bor}
use Rattle.nextest_filtering_filters.specs.Formula.{Formula, leaf, negated, either, both}
use Rattle.nextest_filtering_ast.specs.declared.leaf.ParsedLeaf.{ParsedLeaf}
use Rattle.nextest_filtering_syntax.specs.declared.tree.ParsedExpr.{ParsedExpr}
use Rattle.nextest_filtering_syntax.specs.declared.tree.ParsedExpr.TheVariants as tree

-- from left to right
abbrev pub leaves_of : ParsedExpr → List ParsedLeaf
leaves_of (tree.Not' op p t) = leaves_of t
leaves_of (tree.Union' op p a q b) = leaves_of a ++ leaves_of b
leaves_of (tree.Intersection' op p a q b) = leaves_of a ++ leaves_of b
leaves_of (tree.Difference' op p a q b) = leaves_of a ++ leaves_of b
leaves_of (tree.Parens' p t) = leaves_of t
leaves_of (tree.Set it) = it ∷ []

-- the predicate that is lent
abbrev pub behind : Bor ParsedLeaf → ParsedLeaf
behind lent = lent.now

-- a tree as a formula over the places of its predicates, the leftmost of which has this one
abbrev pub formula_of_tree : ℕ → ParsedExpr → Formula ℕ
formula_of_tree first (tree.Not' op p t) = negated (formula_of_tree first t)
formula_of_tree first (tree.Union' op p a q b) = either (formula_of_tree first a) (formula_of_tree (first + length (leaves_of a)) b)
formula_of_tree first (tree.Intersection' op p a q b) = both (formula_of_tree first a) (formula_of_tree (first + length (leaves_of a)) b)
formula_of_tree first (tree.Difference' op p a q b) = both (formula_of_tree first a) (negated (formula_of_tree (first + length (leaves_of a)) b))
formula_of_tree first (tree.Parens' p t) = formula_of_tree first t
formula_of_tree first (tree.Set it) = leaf first

-- What a tree that was parsed stands for, without spans.
use Rattle.nextest_filtering_ast.specs.Tree.{Tree, negation, union, intersection, difference, parens, set, leaf_of}
use Rattle.nextest_filtering_syntax.specs.declared.tree.ParsedExpr.{ParsedExpr}
use Rattle.nextest_filtering_syntax.specs.declared.tree.ParsedExpr.TheVariants as tree

-- the filterset that a value stands for
abbrev pub tree_of : ParsedExpr → Tree
tree_of (tree.Not' op p t) = negation op (tree_of t)
tree_of (tree.Union' op p a q b) = union op (tree_of a) (tree_of b)
tree_of (tree.Intersection' op p a q b) = intersection op (tree_of a) (tree_of b)
tree_of (tree.Difference' op p a q b) = difference op (tree_of a) (tree_of b)
tree_of (tree.Parens' p t) = parens (tree_of t)
tree_of (tree.Set it) = set (leaf_of it)

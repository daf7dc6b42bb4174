-- The predicates that only a test that runs can answer.
use Rattle.std.specs.Prelude.{Bool, true, false, List, [], ◌∷◌, ◌++◌, if◌then◌else◌}
use Rattle.std.specs.Borrow.{Bor}
use Rattle.nextest_filtering_ast.specs.declared.leaf.ParsedLeaf.{ParsedLeaf}
use Rattle.nextest_filtering_ast.specs.Tree.{package_name, dependencies, dependents, kind, binary_name, binary_id, test_name, group, Leaf, matching, built_for, default_filter, everything, nothing, Tree, negation, union, intersection, difference, parens, set, leaf_of}

-- predicates on the test's name, its group, and the default filter, which may have either
abbrev pub is_runtime_only : Leaf → Bool
is_runtime_only (matching package_name m) = false
is_runtime_only (matching dependencies m) = false
is_runtime_only (matching dependents m) = false
is_runtime_only (matching kind m) = false
is_runtime_only (matching binary_name m) = false
is_runtime_only (matching binary_id m) = false
is_runtime_only (matching test_name m) = true
is_runtime_only (matching group m) = true
is_runtime_only (built_for p) = false
is_runtime_only default_filter = true
is_runtime_only everything = false
is_runtime_only nothing = false

-- those of a tree, from left to right
abbrev pub runtime_leaves : Tree → List Leaf
runtime_leaves (negation op t) = runtime_leaves t
runtime_leaves (union op a b) = runtime_leaves a ++ runtime_leaves b
runtime_leaves (intersection op a b) = runtime_leaves a ++ runtime_leaves b
runtime_leaves (difference op a b) = runtime_leaves a ++ runtime_leaves b
runtime_leaves (parens t) = runtime_leaves t
runtime_leaves (set it) = if is_runtime_only it then it ∷ [] else []

-- the predicate that is lent
abbrev pub leaf_behind : Bor ParsedLeaf → Leaf
leaf_behind lent = leaf_of lent.now

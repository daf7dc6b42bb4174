-- What holds of all trees that are compiled.
use Rattle.std.specs.Prelude.{◌↔◌, Bool}
use Rattle.nextest_filtering_filters.specs.Meaning.{CanBeOn, IsOn}
use Rattle.nextest_filtering_filters.specs.Query.{Binary, Test}
use Rattle.nextest_filtering_filters.specs.declared.leaf.FiltersetLeaf.{FiltersetLeaf}
use Rattle.nextest_filtering_filters.specs.Formula.{Formula}
use Rattle.nextest_filtering_graph.specs.Graph.{Graph}
use Rattle.nextest_filtering_ast.specs.Tree.{Matcher, Tree}
use Rattle.nextest_filtering_compiling.specs.Compiling.{IsCompiled}
use Rattle.nextest_filtering_compiling.specs.Trees.{TreeCanBeOn, TreeIsOn}

-- however a tree is compiled, the filter is the same on every binary and on every test
abbrev pub OneMeaning : {G : Type 0} → (G → Test → Matcher → Type 0) → Type 0
OneMeaning {G} Member =
    (graph : Graph) (tree : Tree) (a b default : Formula FiltersetLeaf) → IsCompiled graph tree a → IsCompiled graph tree b
    → ((binary : Binary) (value : Bool) → CanBeOn a default binary value ↔ CanBeOn b default binary value)
    × ((groups : G) (test : Test) (value : Bool) → IsOn a default test (Member groups test) value ↔ IsOn b default test (Member groups test) value)

-- a compiled tree, with a compiled default filter, is on every binary and on every test what the
-- trees are
abbrev pub KeepsMeaning : {G : Type 0} → (G → Test → Matcher → Type 0) → Type 0
KeepsMeaning {G} Member =
    (groups : G) (graph : Graph) (tree default : Tree) (filter default_filter : Formula FiltersetLeaf) → IsCompiled graph tree filter → IsCompiled graph default default_filter
    → ((binary : Binary) (value : Bool) → TreeCanBeOn graph tree default binary value ↔ CanBeOn filter default_filter binary value)
    × ((test : Test) (value : Bool) → TreeIsOn graph tree default test (Member groups test) value ↔ IsOn filter default_filter test (Member groups test) value)

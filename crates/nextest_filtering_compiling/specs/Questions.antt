-- A filterset asks what its tree asks.
use Rattle.std.proofs.Common.{◌≡◌, ℕ, Bool, true, false, ◌||◌, List, [], ◌∷◌, ◌++◌, refl, ap, ◌∙◌}
use Rattle.std.specs.List.{list_any}
use Rattle.std.proofs.lemmas.List.Folds.{list_any-append}
use Rattle.nextest_filtering_arguments.specs.declared.ban.FiltersetKind.{FiltersetKind}
use Rattle.nextest_filtering_compiling.specs.Compiling.{AreCompiled, IsCompiledLeaf, IsSetOf}
use Rattle.nextest_filtering_compiling.specs.Context.{Context}
use Rattle.nextest_filtering_compiling.specs.Leaves.{leaves_of}
use Rattle.nextest_filtering_compiling.specs.declared.filterset.Filterset.{Filterset}
use Rattle.nextest_filtering_filters.specs.declared.known_groups.KnownGroups.{KnownGroups}
use Rattle.nextest_filtering_filters.specs.Filter.{is_default, is_group, is_runtime_only}
use Rattle.nextest_filtering_filters.specs.declared.leaf.FiltersetLeaf.{FiltersetLeaf}
use Rattle.nextest_filtering_filters.specs.declared.leaf.FiltersetLeaf.TheVariants as predicate
use Rattle.nextest_filtering_graph.specs.Graph.{Graph}
use Rattle.nextest_filtering_syntax.specs.Parsed.{tree_of}
use Rattle.nextest_filtering_syntax.specs.declared.tree.ParsedExpr.{ParsedExpr}
use Rattle.nextest_filtering_syntax.specs.declared.tree.ParsedExpr.TheVariants as tree
use Rattle.nextest_filtering_ast.specs.Tree.{Leaf, Matcher, Subject, matching, built_for, default_filter, everything, nothing, package_name, dependencies, dependents, kind, binary_name, binary_id, test_name, group, leaf_of}
use Rattle.nextest_filtering_ast.specs.declared.leaf.ParsedLeaf.{ParsedLeaf}
use Rattle.nextest_filtering_compiling.specs.Filtersets.{AsksAsWritten, IsParsedFilterset, any_leaf, asks, asks_default, asks_group, asks_test, is_asking}
use Rattle.nextest_filtering_compiling.specs.declared.questions.Question.{Question}
use Rattle.nextest_filtering_compiling.specs.declared.questions.Question.TheVariants as about

-- ---- one predicate

-- what a predicate is compiled to asks what the predicate asks
abbrev AsksAs : Leaf → FiltersetLeaf → Type 0
AsksAs it made = (question : Question) → is_asking question made ≡ asks question it

-- so it does where it is one that does
asks_as : (it : Leaf) (made one : FiltersetLeaf) → made ≡ one → is_group one ≡ asks_group it → is_default one ≡ asks_default it → is_runtime_only one ≡ asks_test it → AsksAs it made
asks_as it made one is groups defaults tests about.Group = ap is_group is ∙ groups
asks_as it made one is groups defaults tests about.Default = ap is_default is ∙ defaults
asks_as it made one is groups defaults tests about.Test = ap is_runtime_only is ∙ tests

-- a set of packages asks nothing
set_asks : (graph : Graph) (subject : Subject) (m : Matcher) (it : Leaf) (made : FiltersetLeaf) → IsSetOf graph subject m made → false ≡ asks_group it → false ≡ asks_default it → false ≡ asks_test it → AsksAs it made
set_asks graph subject m it (predicate.Packages ids) is groups defaults tests = asks_as it (predicate.Packages ids) (predicate.Packages ids) refl groups defaults tests
set_asks graph subject m it made is groups defaults tests = absurd is

leaf_asks : (graph : Graph) (it : Leaf) (made : FiltersetLeaf) → IsCompiledLeaf graph it made → AsksAs it made
leaf_asks graph (matching package_name m) made is = set_asks graph package_name m (matching package_name m) made is refl refl refl
leaf_asks graph (matching dependencies m) made is = set_asks graph dependencies m (matching dependencies m) made is refl refl refl
leaf_asks graph (matching dependents m) made is = set_asks graph dependents m (matching dependents m) made is refl refl refl
leaf_asks graph (matching kind m) made (copy, span, is, same) = asks_as (matching kind m) made (predicate.Kind copy span) is refl refl refl
leaf_asks graph (matching binary_name m) made (copy, span, is, same) = asks_as (matching binary_name m) made (predicate.Binary copy span) is refl refl refl
leaf_asks graph (matching binary_id m) made (copy, span, is, same) = asks_as (matching binary_id m) made (predicate.BinaryId copy span) is refl refl refl
leaf_asks graph (matching test_name m) made (copy, span, is, same) = asks_as (matching test_name m) made (predicate.Test copy span) is refl refl refl
leaf_asks graph (matching group m) made (copy, span, is, same) = asks_as (matching group m) made (predicate.Group copy span) is refl refl refl
leaf_asks graph (built_for platform) made (span, is) = asks_as (built_for platform) made (predicate.Platform platform span) is refl refl refl
leaf_asks graph default_filter made is = asks_as default_filter made predicate.Default is refl refl refl
leaf_asks graph everything made is = asks_as everything made predicate.All is refl refl refl
leaf_asks graph nothing made is = asks_as nothing made predicate.None is refl refl refl

-- ---- all of them

either_same : (a b c d : Bool) → a ≡ c → b ≡ d → (a || b) ≡ (c || d)
either_same a b c d first second = ap (λ (x : Bool). x || b) first ∙ ap (λ (y : Bool). c || y) second

or_nothing : (a : Bool) → (a || false) ≡ a
or_nothing true = refl
or_nothing false = refl

-- those that are compiled one by one ask what they ask
all_ask : (graph : Graph) (question : Question) (leaves : List ParsedLeaf) (made : List FiltersetLeaf) → AreCompiled graph leaves made
    → list_any (is_asking question) made ≡ list_any (λ it. asks question (leaf_of it)) leaves
all_ask graph question [] [] are = refl
all_ask graph question [] (one ∷ made) are = absurd are
all_ask graph question (it ∷ leaves) [] are = absurd are
all_ask graph question (it ∷ leaves) (one ∷ made) (is, are) =
    either_same (is_asking question one) (list_any (is_asking question) made) (asks question (leaf_of it)) (list_any (λ (leaf : ParsedLeaf). asks question (leaf_of leaf)) leaves)
    (leaf_asks graph (leaf_of it) one is question) (all_ask graph question leaves made are)

-- some predicate of a tree asks where one of those of its parts does
parts_ask : (asked : Leaf → Bool) (a b : ParsedExpr) → list_any (λ it. asked (leaf_of it)) (leaves_of a) ≡ any_leaf asked (tree_of a) → list_any (λ it. asked (leaf_of it)) (leaves_of b) ≡ any_leaf asked (tree_of b)
    → list_any (λ it. asked (leaf_of it)) (leaves_of a ++ leaves_of b) ≡ (any_leaf asked (tree_of a) || any_leaf asked (tree_of b))
parts_ask asked a b first second =
    let wants : ParsedLeaf → Bool = λ it. asked (leaf_of it) in
    list_any-append wants (leaves_of a) (leaves_of b)
    ∙ either_same (list_any wants (leaves_of a)) (list_any wants (leaves_of b)) (any_leaf asked (tree_of a)) (any_leaf asked (tree_of b)) first second

tree_asks : (asked : Leaf → Bool) (t : ParsedExpr) → list_any (λ it. asked (leaf_of it)) (leaves_of t) ≡ any_leaf asked (tree_of t)
tree_asks asked (tree.Not' op p t) = tree_asks asked t
tree_asks asked (tree.Union' op p a q b) = parts_ask asked a b (tree_asks asked a) (tree_asks asked b)
tree_asks asked (tree.Intersection' op p a q b) = parts_ask asked a b (tree_asks asked a) (tree_asks asked b)
tree_asks asked (tree.Difference' op p a q b) = parts_ask asked a b (tree_asks asked a) (tree_asks asked b)
tree_asks asked (tree.Parens' p t) = tree_asks asked t
tree_asks asked (tree.Set it) = or_nothing (asked (leaf_of it))

-- a filterset asks what its tree asks
pub asks_as_written : (cx : Context) (purpose : FiltersetKind) (known : KnownGroups) (text : List ℕ) (it : Filterset) → IsParsedFilterset cx purpose known text it → AsksAsWritten it
asks_as_written cx purpose known text it is question =
    all_ask cx.graph question (leaves_of it.parsed) it.compiled.leaves is.4 ∙ tree_asks (asks question) it.parsed

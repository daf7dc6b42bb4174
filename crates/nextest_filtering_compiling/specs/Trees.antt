-- What a filterset is on binaries and on tests, by its tree.
use Rattle.std.specs.Prelude.{◌≡◌, Bool, true, false}
use Rattle.nextest_filtering_filters.specs.Formula.{Formula, Gives, leaf, negated, either, both}
use Rattle.nextest_filtering_filters.specs.Meaning.{Either, Never, Tells}
use Rattle.nextest_filtering_filters.specs.Query.{Binary, Test}
use Rattle.nextest_filtering_graph.specs.Graph.{Graph}
use Rattle.nextest_filtering_ast.specs.Meaning.{MatchesName}
use Rattle.nextest_filtering_ast.specs.Tree.{Leaf, Matcher, Tree, matching, built_for, default_filter, everything, nothing, package_name, dependencies, dependents, kind, binary_name, binary_id, test_name, group, negation, union, intersection, difference, parens, set}
use Rattle.nextest_filtering_compiling.specs.Packages.{AsksFor}

-- what a predicate may be on a binary, where this is what matchers of names and of groups, and the
-- default filter, may be
abbrev pub MayBeAs : Graph → Binary → (Matcher → Bool → Type 0) → (Matcher → Bool → Type 0) → (Bool → Type 0) → Leaf → Bool → Type 0
MayBeAs graph binary Name Group Default (matching package_name m) value = Tells (AsksFor graph package_name m binary.package_id) value
MayBeAs graph binary Name Group Default (matching dependencies m) value = Tells (AsksFor graph dependencies m binary.package_id) value
MayBeAs graph binary Name Group Default (matching dependents m) value = Tells (AsksFor graph dependents m binary.package_id) value
MayBeAs graph binary Name Group Default (matching kind m) value = Tells (MatchesName m binary.kind) value
MayBeAs graph binary Name Group Default (matching binary_name m) value = Tells (MatchesName m binary.name) value
MayBeAs graph binary Name Group Default (matching binary_id m) value = Tells (MatchesName m binary.id) value
MayBeAs graph binary Name Group Default (matching test_name m) value = Name m value
MayBeAs graph binary Name Group Default (matching group m) value = Group m value
MayBeAs graph binary Name Group Default (built_for platform) value = Tells (platform ≡ binary.platform) value
MayBeAs graph binary Name Group Default default_filter value = Default value
MayBeAs graph binary Name Group Default everything value = value ≡ true
MayBeAs graph binary Name Group Default nothing value = value ≡ false

-- a tree as a formula over its predicates: `a - b` is `a and not b`
abbrev pub shape_of_tree : Tree → Formula Leaf
shape_of_tree (negation op t) = negated (shape_of_tree t)
shape_of_tree (union op a b) = either (shape_of_tree a) (shape_of_tree b)
shape_of_tree (intersection op a b) = both (shape_of_tree a) (shape_of_tree b)
shape_of_tree (difference op a b) = both (shape_of_tree a) (negated (shape_of_tree b))
shape_of_tree (parens t) = shape_of_tree t
shape_of_tree (set predicate) = leaf predicate

-- what a filterset can be on a binary, for some answers to its questions for names and groups, each
-- place apart from all others; at each `default()` those of the default filter afresh
abbrev pub TreeCanBeOn : Graph → Tree → Tree → Binary → Bool → Type 0
TreeCanBeOn graph tree default binary =
    Gives (MayBeAs graph binary Either Either (Gives (MayBeAs graph binary Either Either Never) (shape_of_tree default))) (shape_of_tree tree)

-- what a filterset is on a test, where the test's group has a name that such matchers match
abbrev pub TreeIsOn : Graph → Tree → Tree → Test → (Matcher → Type 0) → Bool → Type 0
TreeIsOn graph tree default test Member =
    let Known = MayBeAs graph test.binary (λ m. Tells (MatchesName m test.name)) (λ m. Tells (Member m)) in
    Gives (Known (Gives (Known Never) (shape_of_tree default))) (shape_of_tree tree)

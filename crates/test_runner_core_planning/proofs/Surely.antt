-- Where a filterset holds on a test, it can hold on the test's binary; and it is the same where the
-- same groups are matched.
use Rattle.std.proofs.Common.{◌↔◌, Bool}
use Rattle.nextest_filtering_compiling.specs.Trees.{MayBeAs, TreeCanBeOn, TreeIsOn, shape_of_tree}
use Rattle.nextest_filtering_filters.proofs.Giving.{gives_less}
use Rattle.nextest_filtering_filters.specs.Formula.{Gives}
use Rattle.nextest_filtering_filters.specs.Meaning.{Either, Never, Tells}
use Rattle.nextest_filtering_filters.specs.Query.{Binary, Test}
use Rattle.nextest_filtering_graph.specs.Graph.{Graph}
use Rattle.nextest_filtering_ast.specs.Meaning.{MatchesName}
use Rattle.nextest_filtering_ast.specs.Tree.{Leaf, Matcher, Tree, binary_id, binary_name, built_for, default_filter, dependencies, dependents, everything, group, kind, matching, nothing, package_name, test_name}

-- a predicate may be more of a binary, where names, groups and the default filter may be more
leaf_may_more : (graph : Graph) (binary : Binary) (Name Group More_names More_groups : Matcher → Bool → Type 0) (Default Other : Bool → Type 0)
    → ((m : Matcher) (value : Bool) → Name m value → More_names m value) → ((m : Matcher) (value : Bool) → Group m value → More_groups m value) → ((value : Bool) → Default value → Other value)
    → (it : Leaf) (value : Bool) → MayBeAs graph binary Name Group Default it value → MayBeAs graph binary More_names More_groups Other it value
leaf_may_more graph binary Name Group More_names More_groups Default Other names groups more (matching package_name m) value may = may
leaf_may_more graph binary Name Group More_names More_groups Default Other names groups more (matching dependencies m) value may = may
leaf_may_more graph binary Name Group More_names More_groups Default Other names groups more (matching dependents m) value may = may
leaf_may_more graph binary Name Group More_names More_groups Default Other names groups more (matching kind m) value may = may
leaf_may_more graph binary Name Group More_names More_groups Default Other names groups more (matching binary_name m) value may = may
leaf_may_more graph binary Name Group More_names More_groups Default Other names groups more (matching binary_id m) value may = may
leaf_may_more graph binary Name Group More_names More_groups Default Other names groups more (matching test_name m) value may = names m value may
leaf_may_more graph binary Name Group More_names More_groups Default Other names groups more (matching group m) value may = groups m value may
leaf_may_more graph binary Name Group More_names More_groups Default Other names groups more (built_for platform) value may = may
leaf_may_more graph binary Name Group More_names More_groups Default Other names groups more default_filter value may = more value may
leaf_may_more graph binary Name Group More_names More_groups Default Other names groups more everything value may = may
leaf_may_more graph binary Name Group More_names More_groups Default Other names groups more nothing value may = may

-- so may a tree, beside a default filter, which isn't asked of itself
tree_may_more : (graph : Graph) (tree default : Tree) (binary : Binary) (Name Group More_names More_groups : Matcher → Bool → Type 0)
    → ((m : Matcher) (value : Bool) → Name m value → More_names m value) → ((m : Matcher) (value : Bool) → Group m value → More_groups m value) → (value : Bool)
    → Gives (MayBeAs graph binary Name Group (Gives (MayBeAs graph binary Name Group Never) (shape_of_tree default))) (shape_of_tree tree) value
    → Gives (MayBeAs graph binary More_names More_groups (Gives (MayBeAs graph binary More_names More_groups Never) (shape_of_tree default))) (shape_of_tree tree) value
tree_may_more graph tree default binary Name Group More_names More_groups names groups =
    let Known = MayBeAs graph binary Name Group in
    let Wide = MayBeAs graph binary More_names More_groups in
    let Own = Gives (Known Never) (shape_of_tree default) in
    let Other = Gives (Wide Never) (shape_of_tree default) in
    gives_less (Wide Other) (Known Own)
    (leaf_may_more graph binary Name Group More_names More_groups Own Other names groups
    (gives_less (Wide Never) (Known Never) (leaf_may_more graph binary Name Group More_names More_groups Never Never names groups (λ value never. never)) (shape_of_tree default)))
    (shape_of_tree tree)

pub tree_can_be : (graph : Graph) (tree default : Tree) (test : Test) (Member : Matcher → Type 0) (value : Bool) → TreeIsOn graph tree default test Member value → TreeCanBeOn graph tree default test.binary value
tree_can_be graph tree default test Member =
    tree_may_more graph tree default test.binary (λ m. Tells (MatchesName m test.name)) (λ m. Tells (Member m)) Either Either (λ m value told. tt) (λ m value told. tt)

-- what tells the one tells the other
told_alike : (A B : Type 0) → A ↔ B → (value : Bool) → Tells A value → Tells B value
told_alike A B same value tells = ((λ e. same.0 (tells.0 e)), (λ b. tells.1 (same.1 b)))

-- a tree is on a test what it is where the same groups are matched
pub is_on_alike : (graph : Graph) (tree default : Tree) (test : Test) (Member Other : Matcher → Type 0) → ((m : Matcher) → Member m ↔ Other m) → (value : Bool)
    → TreeIsOn graph tree default test Member value → TreeIsOn graph tree default test Other value
is_on_alike graph tree default test Member Other same =
    tree_may_more graph tree default test.binary (λ m. Tells (MatchesName m test.name)) (λ m. Tells (Member m)) (λ m. Tells (MatchesName m test.name)) (λ m. Tells (Other m)) (λ m value told. told)
    (λ m. told_alike (Member m) (Other m) (same m))

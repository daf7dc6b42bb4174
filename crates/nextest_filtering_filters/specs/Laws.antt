-- What holds of all filters, whoever is asked for groups: a look-up says whose group has a name
-- that a matcher matches.
use Rattle.std.specs.Prelude.{◌≡◌, ◌↔◌, Bool, false, Some}
use Rattle.std.specs.List.{list_any}
use Rattle.nextest_filtering_filters.specs.Formula.{Formula, IsValue}
use Rattle.nextest_filtering_ast.specs.Tree.{Matcher}
use Rattle.nextest_filtering_filters.specs.Filter.{Compiled, filter_of, is_group}
use Rattle.nextest_filtering_filters.specs.Meaning.{CanBeOn, IsOn}
use Rattle.nextest_filtering_filters.specs.Query.{Test}
use Rattle.nextest_filtering_filters.specs.declared.leaf.FiltersetLeaf.{FiltersetLeaf}

-- what is sure of a binary is so of its tests
abbrev pub SureOfTests : {G : Type 0} → (G → Test → Matcher → Type 0) → Type 0
SureOfTests {G} Member =
    (groups : G) (filter default : Formula FiltersetLeaf) (test : Test) (one value : Bool)
    → IsValue (CanBeOn filter default test.binary) (Some one) → IsOn filter default test (Member groups test) value → value ≡ one

-- groups that nobody asks for make no difference
abbrev pub SameWithoutGroups : {G H : Type 0} → (G → Test → Matcher → Type 0) → (H → Test → Matcher → Type 0) → Type 0
SameWithoutGroups {G} {H} Member Other =
    (groups : G) (others : H) (filter default : Compiled) (test : Test) (value : Bool)
    → list_any is_group filter.leaves ≡ false → list_any is_group default.leaves ≡ false
    → IsOn (filter_of filter) (filter_of default) test (Member groups test) value
    → IsOn (filter_of filter) (filter_of default) test (Other others test) value

-- where nobody asks for groups, what a filter is by a look-up it is where nobody knows of a group,
-- and the other way round
abbrev pub SameWithoutLookup : {G : Type 0} → (G → Test → Matcher → Type 0) → Type 0
SameWithoutLookup {G} Member =
    (groups : G) (filter default : Compiled) (test : Test) (value : Bool)
    → list_any is_group filter.leaves ≡ false → list_any is_group default.leaves ≡ false
    → IsOn (filter_of filter) (filter_of default) test (Member groups test) value
    ↔ IsOn (filter_of filter) (filter_of default) test (λ matcher. ⊥) value

-- a filter is at most one value on a test
abbrev pub OneAnswer : {G : Type 0} → (G → Test → Matcher → Type 0) → Type 0
OneAnswer {G} Member =
    (groups : G) (filter default : Formula FiltersetLeaf) (test : Test) (a b : Bool)
    → IsOn filter default test (Member groups test) a → IsOn filter default test (Member groups test) b → a ≡ b

-- What holds of all filters.
use Rattle.std.proofs.Common.{◌≡◌, Bool, true, false, refl}
use Rattle.std.specs.List.{list_any}
use Rattle.nextest_filtering_filters.specs.Formula.{Formula, Gives}
use Rattle.nextest_filtering_filters.proofs.Giving.{gives_less}
use Rattle.nextest_filtering_ast.specs.Meaning.{MatchesName}
use Rattle.nextest_filtering_ast.specs.Tree.{Matcher}
use Rattle.nextest_filtering_filters.specs.Filter.{Compiled, filter_of, is_group, leaf_at}
use Rattle.nextest_filtering_filters.specs.Laws.{OneAnswer, SameWithoutGroups, SameWithoutLookup, SureOfTests}
use Rattle.nextest_filtering_filters.specs.Meaning.{CanBeOn, Either, IsOn, MayBe, Never, Tells}
use Rattle.nextest_filtering_filters.specs.Query.{Binary, Test}
use Rattle.nextest_filtering_filters.specs.declared.leaf.FiltersetLeaf.{FiltersetLeaf}
use Rattle.nextest_filtering_filters.specs.declared.leaf.FiltersetLeaf.TheVariants as leaf
use Rattle.nextest_filtering_filters.proofs.Parts.{filter_less, none_at, only_value, told_one}

-- on a binary a predicate may be all that it may be on a test
pub may_wider : (binary : Binary) (Name Group : Matcher → Bool → Type 0) (Default Other : Bool → Type 0) → ((value : Bool) → Default value → Other value) → (it : FiltersetLeaf) (value : Bool)
    → MayBe binary Name Group Default it value → MayBe binary Either Either Other it value
may_wider binary Name Group Default Other there (leaf.Packages set) value may = may
may_wider binary Name Group Default Other there (leaf.Kind m span) value may = may
may_wider binary Name Group Default Other there (leaf.Platform p span) value may = may
may_wider binary Name Group Default Other there (leaf.Binary m span) value may = may
may_wider binary Name Group Default Other there (leaf.BinaryId m span) value may = may
may_wider binary Name Group Default Other there (leaf.Test m span) value may = tt
may_wider binary Name Group Default Other there (leaf.Group m span) value may = tt
may_wider binary Name Group Default Other there leaf.Default value may = there value may
may_wider binary Name Group Default Other there leaf.All value may = may
may_wider binary Name Group Default Other there leaf.None value may = may

-- what a filter is on a test, it can be on the binary
pub on_test_can_be : (filter default : Formula FiltersetLeaf) (test : Test) (Member : Matcher → Type 0) (value : Bool) → IsOn filter default test Member value → CanBeOn filter default test.binary value
on_test_can_be filter default test Member value =
    let Name : Matcher → Bool → Type 0 = λ m. Tells (MatchesName m test.name) in
    let Group : Matcher → Bool → Type 0 = λ m. Tells (Member m) in
    let Wide = MayBe test.binary Either Either in
    let Known = MayBe test.binary Name Group in
    gives_less (Wide (Gives (Wide Never) default)) (Known (Gives (Known Never) default))
    (may_wider test.binary Name Group (Gives (Known Never) default) (Gives (Wide Never) default)
    (gives_less (Wide Never) (Known Never) (may_wider test.binary Name Group Never Never (λ v never. never)) default))
    filter value

pub sure_of_tests : {G : Type 0} (Member : G → Test → Matcher → Type 0) → SureOfTests Member
sure_of_tests Member groups filter default test one value is on =
    only_value (CanBeOn filter default test.binary) one value is (on_test_can_be filter default test (Member groups test) value on)

-- groups make a difference just where one is asked for
may_group : (binary : Binary) (Name Group Other : Matcher → Bool → Type 0) (Default More : Bool → Type 0) → ((value : Bool) → Default value → More value) → (it : FiltersetLeaf) (value : Bool) → is_group it ≡ false
    → MayBe binary Name Group Default it value → MayBe binary Name Other More it value
may_group binary Name Group Other Default More there (leaf.Packages set) value none may = may
may_group binary Name Group Other Default More there (leaf.Kind m span) value none may = may
may_group binary Name Group Other Default More there (leaf.Platform p span) value none may = may
may_group binary Name Group Other Default More there (leaf.Binary m span) value none may = may
may_group binary Name Group Other Default More there (leaf.BinaryId m span) value none may = may
may_group binary Name Group Other Default More there (leaf.Test m span) value none may = may
may_group binary Name Group Other Default More there (leaf.Group m span) value none may = cc
may_group binary Name Group Other Default More there leaf.Default value none may = there value may
may_group binary Name Group Other Default More there leaf.All value none may = may
may_group binary Name Group Other Default More there leaf.None value none may = may

without_groups : (it : Compiled) (binary : Binary) (Name Group Other : Matcher → Bool → Type 0) (Default More : Bool → Type 0) → ((value : Bool) → Default value → More value) → list_any is_group it.leaves ≡ false
    → (value : Bool) → Gives (MayBe binary Name Group Default) (filter_of it) value → Gives (MayBe binary Name Other More) (filter_of it) value
without_groups it binary Name Group Other Default More there none =
    filter_less it (MayBe binary Name Other More) (MayBe binary Name Group Default)
    (λ place value may. may_group binary Name Group Other Default More there (leaf_at it.leaves place) value (none_at is_group refl it.leaves place none) may)

pub same_without_groups : {G H : Type 0} (Member : G → Test → Matcher → Type 0) (Else : H → Test → Matcher → Type 0)
    → SameWithoutGroups Member Else
same_without_groups Member Else groups others filter default test value none none_there on =
    let Name : Matcher → Bool → Type 0 = λ m. Tells (MatchesName m test.name) in
    let Group : Matcher → Bool → Type 0 = λ m. Tells (Member groups test m) in
    let Other : Matcher → Bool → Type 0 = λ m. Tells (Else others test m) in
    let Known = MayBe test.binary Name Group in
    let Again = MayBe test.binary Name Other in
    without_groups filter test.binary Name Group Other (Gives (Known Never) (filter_of default)) (Gives (Again Never) (filter_of default))
    (without_groups default test.binary Name Group Other Never Never (λ v never. never) none_there) none value on

-- the look-up of nobody has any value that it is asked with
pub same_without_lookup : {G : Type 0} (Member : G → Test → Matcher → Type 0) → SameWithoutLookup Member
same_without_lookup {G} Member groups filter default test value none none_there =
    let Nobody : Bool → Test → Matcher → Type 0 = λ nobody t m. ⊥ in (
      same_without_groups Member Nobody groups true filter default test value none none_there,
      same_without_groups Nobody Member true groups filter default test value none none_there,
    )

-- a filter is one value on a test
pub one_on_test : (filter default : Formula FiltersetLeaf) (test : Test) (Member : Matcher → Type 0) (a b : Bool) → IsOn filter default test Member a → IsOn filter default test Member b → a ≡ b
one_on_test filter default test Member =
    let Name : Matcher → Bool → Type 0 = λ m. Tells (MatchesName m test.name) in
    let Known = MayBe test.binary Name (λ m. Tells (Member m)) in
    told_one test.binary test.name Member (Gives (Known Never) default) (told_one test.binary test.name Member Never (λ a b never other. absurd never) default) filter

pub one_answer : {G : Type 0} (Member : G → Test → Matcher → Type 0) → OneAnswer Member
one_answer Member groups filter default test = one_on_test filter default test (Member groups test)

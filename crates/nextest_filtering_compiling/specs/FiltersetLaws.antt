-- Filtersets keep the laws of filters.
use Rattle.std.proofs.Common.{◌≡◌, ℕ, Bool, true, false, not, ◌&&◌, ◌||◌, List, Option, None, Some, refl, sym, ap, ◌∙◌, subst}
use Rattle.std.specs.List.{list_any}
use Rattle.nextest_filtering_arguments.specs.declared.ban.FiltersetKind.{FiltersetKind}
use Rattle.nextest_filtering_arguments.specs.declared.ban.FiltersetKind.TheVariants as kind
use Rattle.nextest_filtering_compiling.specs.Accepting.{IsFree}
use Rattle.nextest_filtering_compiling.specs.Bans.{ban_of}
use Rattle.nextest_filtering_compiling.specs.Compiling.{IsCompiled}
use Rattle.nextest_filtering_compiling.specs.Context.{Context}
use Rattle.nextest_filtering_compiling.specs.declared.filterset.Filterset.{Filterset}
use Rattle.nextest_filtering_filters.specs.declared.known_groups.KnownGroups.{KnownGroups}
use Rattle.nextest_filtering_compiling.specs.Meaning.{readable, same_on_binary, same_on_test}
use Rattle.nextest_filtering_filters.specs.Filter.{Compiled, filter_of, is_default, is_runtime_only, leaf_at}
use Rattle.nextest_filtering_filters.specs.Deciding.{AllLeaves, AreReadable, IsReadable}
use Rattle.nextest_filtering_filters.specs.Meaning.{CanBeOn, Either, IsOn, MayBe, Never, Tells}
use Rattle.nextest_filtering_filters.specs.Query.{Binary, Test}
use Rattle.nextest_filtering_filters.specs.declared.leaf.FiltersetLeaf.{FiltersetLeaf}
use Rattle.nextest_filtering_filters.specs.declared.leaf.FiltersetLeaf.TheVariants as predicate
use Rattle.nextest_filtering_filters.proofs.Deciding.{decided_on_binary, decided_on_test}
use Rattle.nextest_filtering_filters.proofs.Parts.{is_value_same, may_less, none_at, only_value, tells_one}
use Rattle.nextest_filtering_filters.proofs.Sure.{on_test_can_be, one_on_test}
use Rattle.nextest_filtering_filters.specs.Formula as formula
use Rattle.nextest_filtering_filters.specs.Formula.{Formula, Gives, IsValue, with_leaves}
use Rattle.nextest_filtering_filters.specs.Steps.{formula_of}
use Rattle.nextest_filtering_filters.proofs.Giving.{gives_less, gives_one, of_leaf, with_gives}
use Rattle.nextest_filtering_graph.specs.Graph.{Graph}
use Rattle.nextest_filtering_syntax.proofs.Trees.{one_tree}
use Rattle.nextest_filtering_syntax.specs.Parsed.{tree_of}
use Rattle.nextest_filtering_ast.specs.Meaning.{MatchesName}
use Rattle.nextest_filtering_ast.specs.Tree.{Leaf, Matcher, Tree, matcher_of, matching, default_filter, group, negation, union, intersection, difference, parens, set}
use Rattle.nextest_filtering_compiling.specs.Questions.{asks_as_written}
use Rattle.nextest_config_resolution_filters.specs.Filters.{AreAlike, FiltersLaws, IsRead}
use Rattle.nextest_filtering_compiling.specs.Filtersets.{AsksAsWritten, HasOnBinary, HasOnTest, IsParsedFilterset, any_leaf, asked_in, asks, asks_default, asks_group, can_be_default}
use Rattle.nextest_filtering_compiling.specs.declared.questions.Question.{Question}
use Rattle.nextest_filtering_compiling.specs.declared.questions.Question.TheVariants as about

-- ---- values that differ

abbrev Holds : Bool → Type 0
Holds true = Unit {0}
Holds false = ⊥

abbrev Stands : {A : Type 0} → Option A → Type 0
Stands None = ⊥
Stands (Some it) = Unit {0}

apart : true ≡ false → ⊥
apart is = subst Holds is tt

some_apart : {A : Type 0} (it : A) → Some it ≡ None → ⊥
some_apart it is = subst Stands is tt

-- ---- two filters of one tree, as the default filter

-- a filter may be more where the default filter may be
more_by_default : (binary : Binary) (Name Group : Matcher → Bool → Type 0) (Default Other : Bool → Type 0) → ((value : Bool) → Default value → Other value) → (filter : Formula FiltersetLeaf) (value : Bool)
    → Gives (MayBe binary Name Group Default) filter value → Gives (MayBe binary Name Group Other) filter value
more_by_default binary Name Group Default Other more =
    gives_less (MayBe binary Name Group Other) (MayBe binary Name Group Default) (λ it value. may_less binary Name Group Default Other it value (λ is. more value))

-- `default()` alone: a default filter that is asked of itself is nothing
abbrev itself : Formula FiltersetLeaf
itself = formula.leaf predicate.Default

of_itself : (binary : Binary) (Name Group : Matcher → Bool → Type 0) (value : Bool) → Gives (MayBe binary Name Group Never) itself value → Never value
of_itself binary Name Group = of_leaf (MayBe binary Name Group Never) predicate.Default

-- what the one default filter can be on a binary, the other can
default_on_binary : (graph : Graph) (tree : Tree) (a b : Formula FiltersetLeaf) → IsCompiled graph tree a → IsCompiled graph tree b → (filter : Formula FiltersetLeaf) (binary : Binary) (value : Bool)
    → CanBeOn filter a binary value → CanBeOn filter b binary value
default_on_binary graph tree a b one other filter binary =
    let Wide = MayBe binary Either Either in
    let Itself = Gives (Wide Never) itself in
    more_by_default binary Either Either (Gives (Wide Never) a) (Gives (Wide Never) b)
    (λ value gives. more_by_default binary Either Either Itself Never (of_itself binary Either Either) b value
    (same_on_binary graph tree a b itself one other binary value (more_by_default binary Either Either Never Itself (λ v never. absurd never) a value gives)))
    filter

-- what it is on a test, the other is
default_on_test : (graph : Graph) (tree : Tree) (a b : Formula FiltersetLeaf) → IsCompiled graph tree a → IsCompiled graph tree b → (filter : Formula FiltersetLeaf) (test : Test) (Member : Matcher → Type 0) (value : Bool)
    → IsOn filter a test Member value → IsOn filter b test Member value
default_on_test graph tree a b one other filter test Member =
    let Name : Matcher → Bool → Type 0 = λ m. Tells (MatchesName m test.name) in
    let Group : Matcher → Bool → Type 0 = λ m. Tells (Member m) in
    let Known = MayBe test.binary Name Group in
    let Itself = Gives (Known Never) itself in
    more_by_default test.binary Name Group (Gives (Known Never) a) (Gives (Known Never) b)
    (λ value gives. more_by_default test.binary Name Group Itself Never (of_itself test.binary Name Group) b value
    (same_on_test graph tree a b itself one other test Member value (more_by_default test.binary Name Group Never Itself (λ v never. absurd never) a value gives)))
    filter

-- ---- what a text is, it is by all that a filter is asked

same_asked : (question : Question) (one other : Filterset) → AsksAsWritten one → AsksAsWritten other → tree_of one.parsed ≡ tree_of other.parsed → asked_in question one ≡ asked_in question other
same_asked question one other first second same = first question ∙ ap (any_leaf (asks question)) same ∙ sym (second question)

both_same : (a b c d : Bool) → a ≡ c → b ≡ d → (not a && not b) ≡ (not c && not d)
both_same a b c d first second = ap (λ (x : Bool). not x && not b) first ∙ ap (λ (y : Bool). not c && not y) second

pub one_meaning : (cx : Context) (purpose : FiltersetKind) (known : KnownGroups) (text : List ℕ) (one other : Filterset) → IsParsedFilterset cx purpose known text one → IsParsedFilterset cx purpose known text other
    → AreAlike HasOnBinary HasOnTest (asked_in about.Group) (asked_in about.Test) can_be_default one other
one_meaning cx purpose known text one other first second =
    let tree = tree_of one.parsed in
    let same : tree_of one.parsed ≡ tree_of other.parsed = one_tree text (tree_of one.parsed) (tree_of other.parsed) first.1.0 second.1.0 in
    let a = filter_of one.compiled in
    let b = filter_of other.compiled in
    let made : IsCompiled cx.graph tree a = first.3 in
    let also : IsCompiled cx.graph tree b = subst (λ t. IsCompiled cx.graph t b) (sym same) second.3 in
    let asked : (question : Question) → asked_in question one ≡ asked_in question other
    = λ question. same_asked question one other (asks_as_written cx purpose known text one first) (asks_as_written cx purpose known text other second) same in
    record {
      groups = asked about.Group;
      runtime = asked about.Test;
      serves = both_same (asked_in about.Default one) (asked_in about.Group one) (asked_in about.Default other) (asked_in about.Group other) (asked about.Default) (asked about.Group);
      on_binary = λ default binary value.
          is_value_same (CanBeOn a (filter_of default.compiled) binary) (CanBeOn b (filter_of default.compiled) binary)
          (same_on_binary cx.graph tree a b (filter_of default.compiled) made also binary) (same_on_binary cx.graph tree b a (filter_of default.compiled) also made binary) value;
      on_test = λ default test value. same_on_test cx.graph tree a b (filter_of default.compiled) made also test (λ matcher. ⊥) value;
      default_on_binary = λ filter binary value.
          is_value_same (CanBeOn (filter_of filter.compiled) a binary) (CanBeOn (filter_of filter.compiled) b binary)
          (default_on_binary cx.graph tree a b made also (filter_of filter.compiled) binary) (default_on_binary cx.graph tree b a also made (filter_of filter.compiled) binary) value;
      default_on_test = λ filter test value. default_on_test cx.graph tree a b made also (filter_of filter.compiled) test (λ matcher. ⊥) value;
    }

-- ---- what may not stand in a filterset of a kind isn't asked in it

neither : (a b : Bool) → a ≡ false → b ≡ false → (a || b) ≡ false
neither true b one other = one
neither false b one other = other

none_free : (cx : Context) (purpose : FiltersetKind) (known : KnownGroups) (asked : Leaf → Bool) → ((it : Leaf) → ban_of purpose it ≡ None → asked it ≡ false)
    → (tree : Tree) → IsFree cx purpose known tree → any_leaf asked tree ≡ false
none_free cx purpose known asked banned (negation op t) free = none_free cx purpose known asked banned t free
none_free cx purpose known asked banned (union op a b) free =
    neither (any_leaf asked a) (any_leaf asked b) (none_free cx purpose known asked banned a free.0) (none_free cx purpose known asked banned b free.1)
none_free cx purpose known asked banned (intersection op a b) free =
    neither (any_leaf asked a) (any_leaf asked b) (none_free cx purpose known asked banned a free.0) (none_free cx purpose known asked banned b free.1)
none_free cx purpose known asked banned (difference op a b) free =
    neither (any_leaf asked a) (any_leaf asked b) (none_free cx purpose known asked banned a free.0) (none_free cx purpose known asked banned b free.1)
none_free cx purpose known asked banned (parens t) free = none_free cx purpose known asked banned t free
none_free cx purpose known asked banned (set it) free = banned it free.0

no_default_in_default : (it : Leaf) → ban_of kind.DefaultFilter it ≡ None → asks_default it ≡ false
no_default_in_default default_filter is = absurd (some_apart _ is)
no_default_in_default it is = refl

no_group_in_default : (it : Leaf) → ban_of kind.DefaultFilter it ≡ None → asks_group it ≡ false
no_group_in_default (matching group m) is = absurd (some_apart _ is)
no_group_in_default it is = refl

no_group_in_override : (it : Leaf) → ban_of kind.OverrideFilter it ≡ None → asks_group it ≡ false
no_group_in_override (matching group m) is = absurd (some_apart _ is)
no_group_in_override it is = refl

both_not : (a b : Bool) → a ≡ false → b ≡ false → (not a && not b) ≡ true
both_not true b one other = absurd (apart one)
both_not false true one other = absurd (apart other)
both_not false false one other = refl

pub default_has_no_groups : (cx : Context) (known : KnownGroups) (text : List ℕ) (it : Filterset) → IsParsedFilterset cx kind.DefaultFilter known text it → asked_in about.Group it ≡ false
default_has_no_groups cx known text it is =
    asks_as_written cx kind.DefaultFilter known text it is about.Group ∙ none_free cx kind.DefaultFilter known asks_group no_group_in_default (tree_of it.parsed) is.1.1

pub default_serves : (cx : Context) (known : KnownGroups) (text : List ℕ) (it : Filterset) → IsParsedFilterset cx kind.DefaultFilter known text it → can_be_default it ≡ true
default_serves cx known text it is =
    both_not (asked_in about.Default it) (asked_in about.Group it)
    (asks_as_written cx kind.DefaultFilter known text it is about.Default ∙ none_free cx kind.DefaultFilter known asks_default no_default_in_default (tree_of it.parsed) is.1.1)
    (default_has_no_groups cx known text it is)

pub override_has_no_groups : (cx : Context) (known : KnownGroups) (text : List ℕ) (it : Filterset) → IsParsedFilterset cx kind.OverrideFilter known text it → asked_in about.Group it ≡ false
override_has_no_groups cx known text it is =
    asks_as_written cx kind.OverrideFilter known text it is about.Group ∙ none_free cx kind.OverrideFilter known asks_group no_group_in_override (tree_of it.parsed) is.1.1

-- ---- a filter that asks nothing of tests

known_one : (binary : Binary) (Default : Bool → Type 0) (it : FiltersetLeaf) (a b : Bool) → is_runtime_only it ≡ false → MayBe binary Either Either Default it a → MayBe binary Either Either Default it b → a ≡ b
known_one binary Default (predicate.Packages ids) a b known first second = first ∙ sym second
known_one binary Default (predicate.Kind m span) a b known first second = tells_one (MatchesName (matcher_of m) binary.kind) a b first second
known_one binary Default (predicate.Platform p span) a b known first second = tells_one (p ≡ binary.platform) a b first second
known_one binary Default (predicate.Binary m span) a b known first second = tells_one (MatchesName (matcher_of m) binary.name) a b first second
known_one binary Default (predicate.BinaryId m span) a b known first second = tells_one (MatchesName (matcher_of m) binary.id) a b first second
known_one binary Default (predicate.Test m span) a b known first second = absurd (apart known)
known_one binary Default (predicate.Group m span) a b known first second = absurd (apart known)
known_one binary Default predicate.Default a b known first second = absurd (apart known)
known_one binary Default predicate.All a b known first second = first ∙ sym second
known_one binary Default predicate.None a b known first second = first ∙ sym second

filter_one : (it : Compiled) (binary : Binary) (Default : Bool → Type 0) → list_any is_runtime_only it.leaves ≡ false → (a b : Bool)
    → Gives (MayBe binary Either Either Default) (filter_of it) a → Gives (MayBe binary Either Either Default) (filter_of it) b → a ≡ b
filter_one it binary Default none a b first second =
    let May = MayBe binary Either Either Default in
    let at = leaf_at it.leaves in
    let steps = formula_of it.steps in
    gives_one (λ place. May (at place)) (λ place x y. known_one binary Default (at place) x y (none_at is_runtime_only refl it.leaves place none)) steps a b
    (with_gives at May steps a first) (with_gives at May steps b second)

pub sure_of_binaries : (filter default : Filterset) (binary : Binary) (value : Option Bool) → asked_in about.Test filter ≡ false → HasOnBinary filter default binary value → (sure : Bool) × (value ≡ Some sure)
sure_of_binaries filter default binary (Some sure) none has = (sure, refl)
sure_of_binaries filter default binary None none has =
    absurd (apart (filter_one filter.compiled binary (Gives (MayBe binary Either Either Never) (filter_of default.compiled)) none true false has.0 has.1))

pub sure_of_tests : (filter default : Filterset) (test : Test) (sure value : Bool) → HasOnBinary filter default test.binary (Some sure) → HasOnTest filter default test value → value ≡ sure
sure_of_tests filter default test sure value is on =
    let a = filter_of filter.compiled in
    let d = filter_of default.compiled in
    only_value (CanBeOn a d test.binary) sure value is (on_test_can_be a d test (λ matcher. ⊥) value on)

-- ---- one value

value_one : (Can : Bool → Type 0) (a b : Option Bool) → IsValue Can a → IsValue Can b → a ≡ b
value_one Can None None first second = refl
value_one Can None (Some true) first second = absurd (second.1 first.1)
value_one Can None (Some false) first second = absurd (second.1 first.0)
value_one Can (Some true) None first second = absurd (first.1 second.1)
value_one Can (Some false) None first second = absurd (first.1 second.0)
value_one Can (Some a) (Some b) first second = ap (λ (x : Bool). Some x) (only_value Can b a second first.0)

-- ---- some value

all_at : (Holding : FiltersetLeaf → Type 0) (at : ℕ → FiltersetLeaf) → ((place : ℕ) → Holding (at place)) → (steps : Formula ℕ) → AllLeaves Holding (with_leaves at steps)
all_at Holding at holds (formula.leaf place) = holds place
all_at Holding at holds (formula.negated inside) = all_at Holding at holds inside
all_at Holding at holds (formula.either left right) = (all_at Holding at holds left, all_at Holding at holds right)
all_at Holding at holds (formula.both left right) = (all_at Holding at holds left, all_at Holding at holds right)

first_not : (a b : Bool) → (not a && not b) ≡ true → a ≡ false
first_not true b is = sym is
first_not false b is = refl

pub no_default : (it : Filterset) → can_be_default it ≡ true → AllLeaves (λ leaf. is_default leaf ≡ false) (filter_of it.compiled)
no_default it serves =
    all_at (λ leaf. is_default leaf ≡ false) (leaf_at it.compiled.leaves)
    (λ place. none_at is_default refl it.compiled.leaves place (first_not (asked_in about.Default it) (asked_in about.Group it) serves)) (formula_of it.compiled.steps)

read_readable : (it : Filterset) → IsRead IsParsedFilterset it → AreReadable (filter_of it.compiled)
read_readable it (cx, purpose, known, text, is) = readable text (tree_of it.parsed) is.1.0 cx.graph (filter_of it.compiled) is.3

no_member : (m : Matcher) → IsReadable m → (b : Bool) × Tells ⊥ b
no_member m reads = (false, ((λ is. apart (sym is)), (λ never. absurd never)))

pub some_on_binary : (filter default : Filterset) (binary : Binary) → IsRead IsParsedFilterset filter → IsRead IsParsedFilterset default → can_be_default default ≡ true → (value : Option Bool) × HasOnBinary filter default binary value
some_on_binary filter default binary read default_read serves =
    decided_on_binary filter.compiled default.compiled (read_readable filter read) (read_readable default default_read) (no_default default serves) binary

pub some_on_test : (filter default : Filterset) (test : Test) → IsRead IsParsedFilterset filter → IsRead IsParsedFilterset default → can_be_default default ≡ true → (value : Bool) × HasOnTest filter default test value
some_on_test filter default test read default_read serves =
    decided_on_test filter.compiled default.compiled (read_readable filter read) (read_readable default default_read) (no_default default serves) test (λ matcher. ⊥) no_member

pub filterset_laws : FiltersLaws IsParsedFilterset HasOnBinary HasOnTest (asked_in about.Group) (asked_in about.Test) can_be_default
filterset_laws = record {
  one_meaning = one_meaning;
  default_serves = default_serves;
  default_has_no_groups = default_has_no_groups;
  override_has_no_groups = override_has_no_groups;
  sure_of_tests = λ filter default test sure value none. sure_of_tests filter default test sure value;
  sure_of_binaries = sure_of_binaries;
  one_on_binary = λ filter default binary a b serves. value_one (CanBeOn (filter_of filter.compiled) (filter_of default.compiled) binary) a b;
  one_on_test = λ filter default test a b serves none. one_on_test (filter_of filter.compiled) (filter_of default.compiled) test (λ matcher. ⊥) a b;
  some_on_binary = some_on_binary;
  some_on_test = λ filter default test read default_read serves none. some_on_test filter default test read default_read serves;
}

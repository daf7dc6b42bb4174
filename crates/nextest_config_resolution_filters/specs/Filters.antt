-- What holds of filters, whatever they are.
use Rattle.std.specs.Prelude.{◌≡◌, ℕ, Bool, true, false, List, Option, Some}
use Rattle.nextest_filtering_arguments.specs.declared.ban.FiltersetKind.{FiltersetKind}
use Rattle.nextest_filtering_arguments.specs.declared.ban.FiltersetKind.TheVariants as kind
use Rattle.nextest_filtering_filters.specs.declared.known_groups.KnownGroups.{KnownGroups}
use Rattle.nextest_filtering_filters.specs.Query.{Binary, Test}

-- Two filters that no question tells apart: each answer of the one is an answer of the other, as
-- the filter that is asked and as the default filter.
pub record AreAlike {Filter : Type 0} (OnBinary : Filter → Filter → Binary → Option Bool → Type 0) (OnTest : Filter → Filter → Test → Bool → Type 0)
    (asks_groups has_runtime_leaves serves_as_default : Filter → Bool) (one other : Filter) : Type 0 where
  pub groups : asks_groups one ≡ asks_groups other
  pub runtime : has_runtime_leaves one ≡ has_runtime_leaves other
  pub serves : serves_as_default one ≡ serves_as_default other
  pub on_binary : (default : Filter) (binary : Binary) (value : Option Bool) → OnBinary one default binary value → OnBinary other default binary value
  pub on_test : (default : Filter) (test : Test) (value : Bool) → OnTest one default test value → OnTest other default test value
  pub default_on_binary : (filter : Filter) (binary : Binary) (value : Option Bool) → OnBinary filter one binary value → OnBinary filter other binary value
  pub default_on_test : (filter : Filter) (test : Test) (value : Bool) → OnTest filter one test value → OnTest filter other test value

-- some text is this filter
abbrev pub IsRead : {Filter Cx : Type 0} → (Cx → FiltersetKind → KnownGroups → List ℕ → Filter → Type 0) → Filter → Type 0
IsRead {Filter} {Cx} IsParsed it = (cx : Cx) × (purpose : FiltersetKind) × (known : KnownGroups) × (text : List ℕ) × IsParsed cx purpose known text it

-- Filters, where these say which filter a text is, and what a filter is on a binary and on a test,
-- beside the default filter.
pub record FiltersLaws {Filter Cx : Type 0} (IsParsed : Cx → FiltersetKind → KnownGroups → List ℕ → Filter → Type 0)
    (OnBinary : Filter → Filter → Binary → Option Bool → Type 0) (OnTest : Filter → Filter → Test → Bool → Type 0)
    (asks_groups has_runtime_leaves serves_as_default : Filter → Bool) : Type 0 where
  -- a text is one filter, in its context and for its purpose, by all that a filter is asked
  pub one_meaning : (cx : Cx) (purpose : FiltersetKind) (known : KnownGroups) (text : List ℕ) (one other : Filter) → IsParsed cx purpose known text one → IsParsed cx purpose known text other
      → AreAlike OnBinary OnTest asks_groups has_runtime_leaves serves_as_default one other
  -- what is read as a default filter serves as one
  pub default_serves : (cx : Cx) (known : KnownGroups) (text : List ℕ) (it : Filter) → IsParsed cx kind.DefaultFilter known text it → serves_as_default it ≡ true
  -- what is read as a default filter, or as the filter of an override, asks for no groups
  pub default_has_no_groups : (cx : Cx) (known : KnownGroups) (text : List ℕ) (it : Filter) → IsParsed cx kind.DefaultFilter known text it → asks_groups it ≡ false
  pub override_has_no_groups : (cx : Cx) (known : KnownGroups) (text : List ℕ) (it : Filter) → IsParsed cx kind.OverrideFilter known text it → asks_groups it ≡ false
  -- what a filter that asks nothing of tests is on a binary, it is on the binary's tests
  pub sure_of_tests : (filter default : Filter) (test : Test) (sure value : Bool) → has_runtime_leaves filter ≡ false → OnBinary filter default test.binary (Some sure) → OnTest filter default test value → value ≡ sure
  -- a filter that asks nothing of tests is sure of each binary
  pub sure_of_binaries : (filter default : Filter) (binary : Binary) (value : Option Bool) → has_runtime_leaves filter ≡ false → OnBinary filter default binary value → (sure : Bool) × (value ≡ Some sure)
  -- a filter has one value at most on a binary, and on a test
  pub one_on_binary : (filter default : Filter) (binary : Binary) (a b : Option Bool) → serves_as_default default ≡ true → OnBinary filter default binary a → OnBinary filter default binary b → a ≡ b
  pub one_on_test : (filter default : Filter) (test : Test) (a b : Bool) → serves_as_default default ≡ true → asks_groups filter ≡ false → OnTest filter default test a → OnTest filter default test b → a ≡ b
  -- what is read has a value on each binary, and one on each test
  pub some_on_binary : (filter default : Filter) (binary : Binary) → IsRead IsParsed filter → IsRead IsParsed default → serves_as_default default ≡ true → (value : Option Bool) × OnBinary filter default binary value
  pub some_on_test : (filter default : Filter) (test : Test) → IsRead IsParsed filter → IsRead IsParsed default → serves_as_default default ≡ true → asks_groups filter ≡ false
      → (value : Bool) × OnTest filter default test value

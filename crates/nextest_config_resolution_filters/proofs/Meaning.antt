-- Filters by the texts that they are read from.
use Rattle.std.specs.Prelude.{◌≡◌, ℕ, Bool, true, false, List, Option}
use Rattle.nextest_filtering_arguments.specs.declared.ban.FiltersetKind.{FiltersetKind}
use Rattle.nextest_filtering_filters.specs.declared.known_groups.KnownGroups.{KnownGroups}
use Rattle.nextest_filtering_filters.specs.Query.{Binary, Test}
use Rattle.nextest_config_resolution_filters.specs.Filters.{FiltersLaws}

module _ {Filter Cx : Type 0} {IsParsed : Cx → FiltersetKind → KnownGroups → List ℕ → Filter → Type 0}
    {OnBinary : Filter → Filter → Binary → Option Bool → Type 0} {OnTest : Filter → Filter → Test → Bool → Type 0}
    {asks_groups has_runtime_leaves serves_as_default : Filter → Bool} (laws : FiltersLaws IsParsed OnBinary OnTest asks_groups has_runtime_leaves serves_as_default)
    (cx : Cx) (known : KnownGroups) (purpose : FiltersetKind) (text : List ℕ) (default_purpose : FiltersetKind) (default_text : List ℕ) where
  -- two texts have one value on a binary, whichever filters they are read as
  pub value_on_binary : (filter other default other_default : Filter) → IsParsed cx purpose known text filter → IsParsed cx purpose known text other
      → IsParsed cx default_purpose known default_text default → IsParsed cx default_purpose known default_text other_default → serves_as_default default ≡ true
      → (binary : Binary) (a b : Option Bool) → OnBinary filter default binary a → OnBinary other other_default binary b → a ≡ b
  value_on_binary filter other default other_default read also default_read default_also serves binary a b first second =
      let back = laws.one_meaning cx purpose known text other filter also read in
      let back_default = laws.one_meaning cx default_purpose known default_text other_default default default_also default_read in
      laws.one_on_binary filter default binary a b serves first
      (back.on_binary default binary b (back_default.default_on_binary other binary b second))

  -- and on a test
  pub value_on_test : (filter other default other_default : Filter) → IsParsed cx purpose known text filter → IsParsed cx purpose known text other
      → IsParsed cx default_purpose known default_text default → IsParsed cx default_purpose known default_text other_default → serves_as_default default ≡ true → asks_groups filter ≡ false
      → (test : Test) (a b : Bool) → OnTest filter default test a → OnTest other other_default test b → a ≡ b
  value_on_test filter other default other_default read also default_read default_also serves none test a b first second =
      let back = laws.one_meaning cx purpose known text other filter also read in
      let back_default = laws.one_meaning cx default_purpose known default_text other_default default default_also default_read in
      laws.one_on_test filter default test a b serves none first
      (back.on_test default test b (back_default.default_on_test other test b second))

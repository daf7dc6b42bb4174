-- The filters of a configuration can be asked.
use Rattle.std.proofs.Common.{ℕ, Bool, List, [], ◌∷◌, Option, None, Some}
use Rattle.std.specs.List.{AllByRecursion, AllZip}
use Rattle.nextest_filtering_arguments.specs.declared.ban.FiltersetKind.{FiltersetKind}
use Rattle.nextest_filtering_filters.specs.Query.{Binary, Test}
use Rattle.nextest_filtering_filters.specs.declared.known_groups.KnownGroups.{KnownGroups}
use Rattle.nextest_filtering_filters.specs.declared.known_groups.KnownGroups.TheVariants as groups
use Rattle.nextest_config_resolution_filters.specs.Filters.{FiltersLaws}
use Rattle.nextest_config_resolution_load.specs.Load.{AreReadBy, IsReadAs, IsSpecBy}
use Rattle.nextest_config_resolution_load.specs.declared.languages.FilterPurpose.TheVariants as purpose
use Rattle.nextest_config_resolution_load.specs.Rules.{Conditions}
use Rattle.nextest_config_resolution_load.specs.declared.loaded_rule.LoadedRule.{LoadedRule}
use Rattle.nextest_config_resolution_profiles.specs.Asking.{AsksNoGroups, IsAskable, Serves}
use Rattle.nextest_config_resolution_profiles.specs.Languages.{IsFilterIn}
use Rattle.nextest_config_resolution_keys.specs.File.{Named, default_filter_in}

module _ {F Cx : Type 0} {IsParsed : Cx → FiltersetKind → KnownGroups → List ℕ → F → Type 0}
    {OnBinary : F → F → Binary → Option Bool → Type 0} {OnTest : F → F → Test → Bool → Type 0}
    {asks_groups has_runtime_leaves serves_as_default : F → Bool} (laws : FiltersLaws IsParsed OnBinary OnTest asks_groups has_runtime_leaves serves_as_default)
    (cx : Cx) where
  -- a default filter that is read serves as one
  serves : (text : Option (List ℕ)) (found : Option F) → IsReadAs (IsFilterIn IsParsed has_runtime_leaves cx purpose.Default) text found → Serves serves_as_default found
  serves text None is = tt
  serves None (Some it) is = absurd is
  serves (Some text) (Some it) is = laws.default_serves cx groups.Unavailable text it is

  -- and the filter of a rule asks for no groups
  asks_none : (text : Option (List ℕ)) (found : Option F) → IsReadAs (IsFilterIn IsParsed has_runtime_leaves cx purpose.Override) text found → AsksNoGroups asks_groups found
  asks_none text None is = tt
  asks_none None (Some it) is = absurd is
  asks_none (Some text) (Some it) is = laws.override_has_no_groups cx groups.Unavailable text it is

  pub all_serve : (profiles : List Named) (filters : List (Option F))
      → AllZip (λ profile found. IsReadAs (IsFilterIn IsParsed has_runtime_leaves cx purpose.Default) (default_filter_in profile.1) found) profiles filters
      → AllByRecursion (Serves serves_as_default) filters
  all_serve [] [] all = tt
  all_serve [] (found ∷ filters) all = absurd all
  all_serve (profile ∷ profiles) [] all = absurd all
  all_serve (profile ∷ profiles) (found ∷ filters) all = (serves (default_filter_in profile.1) found all.0, all_serve profiles filters all.1)

  pub all_askable : {P S : Type 0} (conditions : P → Conditions) (IsSpec : IsSpecBy S) (rules : List P) (loaded : List (LoadedRule P F S))
      → AreReadBy conditions (IsFilterIn IsParsed has_runtime_leaves cx) IsSpec rules loaded → AllByRecursion (IsAskable serves_as_default asks_groups) loaded
  all_askable conditions IsSpec [] [] are = tt
  all_askable conditions IsSpec [] (it ∷ loaded) are = absurd are
  all_askable conditions IsSpec (rule ∷ rules) [] are = absurd are
  all_askable conditions IsSpec (rule ∷ rules) (it ∷ loaded) are = (
    record {
      filter = asks_none (conditions rule).filter it.compiled.filter are.0.compiled.filter;
      default_filter = serves (conditions rule).default_filter it.compiled.default_filter are.0.compiled.default_filter;
    },
    all_askable conditions IsSpec rules loaded are.1,
  )

-- A configuration that is loaded over what is built in is sound.
use Rattle.std.proofs.Common.{◌≡◌, ℕ, Bool, List, Option, Ok, refl, sym, subst}
use Rattle.std.proofs.lemmas.List.Elements.{All-from_recursion}
use Rattle.toml.specs.Data.{table, Members}
use Rattle.nextest_filtering_arguments.specs.declared.ban.FiltersetKind.{FiltersetKind}
use Rattle.nextest_filtering_filters.specs.Query.{Binary, Test}
use Rattle.nextest_filtering_filters.specs.declared.known_groups.KnownGroups.{KnownGroups}
use Rattle.nextest_config_resolution_filters.specs.Filters.{FiltersLaws}
use Rattle.nextest_config_resolution_inheritance.specs.Inheritance.{Rise, default}
use Rattle.nextest_config_resolution_load.specs.Checks.{parents_of, rules_downward, script_rules_downward}
use Rattle.nextest_config_resolution_load.specs.Rules.{conditions_of, script_conditions_of}
use Rattle.nextest_config_resolution_load.specs.Load.{IsLoaded, IsLoadedAs, IsSpecBy, merged_of}
use Rattle.nextest_config_resolution_load.specs.declared.languages.FilterPurpose.TheVariants as purpose
use Rattle.nextest_config_resolution_load.specs.declared.loaded_config.LoadedConfig.{LoadedConfig}
use Rattle.nextest_config_resolution_load.proofs.Kept.{kept_inherits}
use Rattle.nextest_config_resolution_sources.specs.declared.source.ConfigSource.{ConfigSource}
use Rattle.nextest_config_resolution_profiles.specs.Asking.{IsAskable, Serves}
use Rattle.nextest_config_resolution_profiles.specs.BuiltIn.{built_in_members, default_members, profiles_members}
use Rattle.nextest_config_resolution_profiles.specs.Kept.{HasProfile}
use Rattle.nextest_config_resolution_profiles.specs.Languages.{IsFilterIn}
use Rattle.nextest_config_resolution_profiles.specs.Whole.{IsSound}
use Rattle.nextest_config_resolution_profiles.proofs.Askable.{all_askable, all_serve}
use Rattle.nextest_config_resolution_profiles.proofs.Filtered.{all_filtered}
use Rattle.nextest_config_resolution_profiles.proofs.Kept.{kept_profile}
use Rattle.nextest_config_resolution_profiles.proofs.SetsAll.{default_sets, store_sets}
use Rattle.nextest_config_elements_versions.specs.declared.feature.FeatureSet.{FeatureSet}

pub sound : {F S Cx : Type 0} {IsParsed : Cx → FiltersetKind → KnownGroups → List ℕ → F → Type 0}
    {OnBinary : F → F → Binary → Option Bool → Type 0} {OnTest : F → F → Test → Bool → Type 0} {asks_groups has_runtime_leaves serves_as_default : F → Bool}
    (laws : FiltersLaws IsParsed OnBinary OnTest asks_groups has_runtime_leaves serves_as_default) (IsSpec : IsSpecBy S) (IsTooDeep : List ℕ → Type 0) (cx : Cx)
    (features : FeatureSet) (members : Members) (sources : List ConfigSource) (it : LoadedConfig F S) → members ≡ built_in_members
    → IsLoaded (IsFilterIn IsParsed has_runtime_leaves cx) IsSpec IsTooDeep features members sources (Ok it) → Rise (parents_of (merged_of it).profiles) → IsSound serves_as_default asks_groups it
sound {IsParsed = IsParsed} {asks_groups = asks_groups} {has_runtime_leaves = has_runtime_leaves} {serves_as_default = serves_as_default} laws IsSpec IsTooDeep cx features members sources it same loaded rises =
    let over = subst (λ (ms : Members). IsLoadedAs (IsFilterIn IsParsed has_runtime_leaves cx) IsSpec features ms sources it) same loaded in
    let set = default_sets (IsFilterIn IsParsed has_runtime_leaves cx) IsSpec features sources it over in record {
      accepted = kept_inherits (IsFilterIn IsParsed has_runtime_leaves cx) IsSpec features members sources (merged_of it) loaded.kept loaded.values;
      rises = rises;
      has_default = kept_profile (IsFilterIn IsParsed has_runtime_leaves cx) IsSpec IsTooDeep features members sources it default (subst (HasProfile default) (sym same) built_in_has) loaded;
      sets_filter = record { values = set.0; text = set.2.0; there = set.1; sets = set.2.1 };
      filtered = all_filtered (IsFilterIn IsParsed has_runtime_leaves cx purpose.Default) it.profiles it.default_filters loaded.filters;
      serve = All-from_recursion (Serves serves_as_default) it.default_filters (all_serve laws cx (merged_of it).profiles it.default_filters loaded.filters);
      askable = All-from_recursion (IsAskable serves_as_default asks_groups) it.rules (all_askable laws cx conditions_of IsSpec (rules_downward sources) it.rules loaded.rules);
      scripts_askable = All-from_recursion (IsAskable serves_as_default asks_groups) it.script_rules
          (all_askable laws cx script_conditions_of IsSpec (script_rules_downward sources) it.script_rules loaded.script_rules);
      stored = store_sets (IsFilterIn IsParsed has_runtime_leaves cx) IsSpec features sources it over;
    }
  where
    built_in_has : HasProfile default built_in_members
    built_in_has = record { profiles = profiles_members; given = table default_members; listed = refl; there = refl }

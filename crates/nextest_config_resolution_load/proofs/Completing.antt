-- A configuration from what was read, or why there is none.
use Rattle.std.proofs.Common.{◌≡◌, ℕ, List, ◌∷◌, ◌++◌, Result, Ok, Err, sym, ap, ◌∙◌, subst, append-nil}
use Rattle.std.proofs.lemmas.Result.{err_from_is_err_and}
use Rattle.std.specs.List.{AllByRecursion, flat_map}
use Rattle.std.specs.Result.{IsErrAnd}
use Rattle.toml.specs.Data.{Members}
use Rattle.nextest_config_elements_toml.specs.Reading.{Reading}
use Rattle.nextest_config_resolution_load.specs.Checks.{Check, bad_merged, checks_of, config_in, default_checks, inheritance, MergedConfig, merged_checks, merged_in, named_checks, parents_of, rules_downward, rules_upward, script_rules_downward, script_rules_upward, source_checks, value_checks}
use Rattle.nextest_config_resolution_load.specs.Load.{AreReadRules, AreReadScriptRules, IsFilterBy, IsKept, IsLoaded, IsSpecBy}
use Rattle.nextest_config_resolution_load.specs.Reading.{AreReadSources, IsCompleted, all_placed, early_checks, overrides_of, read_as, scripts_of}
use Rattle.nextest_config_resolution_load.specs.Refusing.{Passes, RefusesFor}
use Rattle.nextest_config_resolution_load.specs.declared.load_error.LoadError.{LoadError}
use Rattle.nextest_config_resolution_load.specs.declared.load_error.LoadError.TheVariants as error
use Rattle.nextest_config_resolution_load.specs.declared.loaded_config.LoadedConfig.{LoadedConfig}
use Rattle.nextest_config_resolution_load.specs.declared.placed_file.ReadSources.{ReadSources}
use Rattle.nextest_config_resolution_load.proofs.Downward.{overrides_downward, overrides_placed, scripts_downward, scripts_placed}
use Rattle.nextest_config_resolution_load.proofs.Kept.{kept_before}
use Rattle.nextest_config_resolution_load.proofs.Passing.{kept_both, refuses_before, refuses_behind}
use Rattle.nextest_config_resolution_overrides.specs.declared.placed_override.PlacedOverride.{PlacedOverride}
use Rattle.nextest_config_elements_versions.specs.declared.feature.FeatureSet.{FeatureSet}
use Rattle.nextest_config_resolution_scripts.specs.declared.script_rule.PlacedScriptRule.{PlacedScriptRule}
use Rattle.nextest_config_resolution_sources.specs.Counting.{counting_sources}
use Rattle.nextest_config_resolution_sources.specs.declared.source.ConfigSource.{ConfigSource}

module _ {F S : Type 0} (Is : IsFilterBy F) (IsSpec : IsSpecBy S) (IsTooDeep : List ℕ → Type 0) (features : FeatureSet) (built_in : Members) (sources : List ConfigSource) where
  -- what is refused of the sources, or of the values that they come to
  refuses_whole : (front : List Check) (rules : List PlacedOverride) (scripts : List PlacedScriptRule) (reading : Reading MergedConfig) (told : LoadError)
      → RefusesFor Is IsSpec IsTooDeep (front ++ value_checks bad_merged reading) told → RefusesFor Is IsSpec IsTooDeep (front ++ merged_checks rules scripts reading) told
  refuses_whole front rules scripts (Err keys) told refuses = refuses
  refuses_whole front rules scripts (Ok config) told refuses =
      refuses_before Is IsSpec IsTooDeep front (named_checks rules scripts config ++ (inheritance (parents_of config.profiles) ∷ default_checks config.profiles)) told
      (subst (λ (checks : List Check). RefusesFor Is IsSpec IsTooDeep checks told) (append-nil front) refuses)

  loaded_error : (told : LoadError) → RefusesFor Is IsSpec IsTooDeep (checks_of features built_in sources) told → IsLoaded Is IsSpec IsTooDeep features built_in sources (Err told)
  loaded_error (error.Refused fault) refuses = refuses
  loaded_error error.OutOfMemory refuses = tt

  pub early_refused : (told : LoadError) (result : Result (LoadedConfig F S) LoadError) → RefusesFor Is IsSpec IsTooDeep (early_checks features built_in sources) told → IsErrAnd result (λ y. y ≡ told)
      → IsLoaded Is IsSpec IsTooDeep features built_in sources result
  early_refused told result refuses is =
      let found = err_from_is_err_and result is in
      let whole = refuses_whole (flat_map (source_checks features) (counting_sources sources)) (rules_upward sources) (script_rules_upward sources) (config_in (merged_in built_in sources)) told refuses in
      subst (IsLoaded Is IsSpec IsTooDeep features built_in sources) (sym found.1)
      (loaded_error found.0 (subst (RefusesFor Is IsSpec IsTooDeep (checks_of features built_in sources)) (sym found.2) whole))

  -- the checks of what they come to are those of what was read
  module _ (read : ReadSources F S) (kept : AllByRecursion (IsKept Is IsSpec) (early_checks features built_in sources)) (are : AreReadSources Is IsSpec built_in sources read) where
    same_checks : merged_checks (all_placed (overrides_of read.rules.items)) (all_placed (scripts_of read.rules.items)) (read_as read.config)
        ≡ merged_checks (rules_upward sources) (script_rules_upward sources) (config_in (merged_in built_in sources))
    same_checks =
        ap (λ (rules : List PlacedOverride). merged_checks rules (all_placed (scripts_of read.rules.items)) (read_as read.config)) (overrides_placed Is IsSpec (counting_sources sources) read.rules.items are.rules)
        ∙ ap (λ (scripts : List PlacedScriptRule). merged_checks (rules_upward sources) scripts (read_as read.config)) (scripts_placed Is IsSpec (counting_sources sources) read.rules.items are.rules)
        ∙ ap (merged_checks (rules_upward sources) (script_rules_upward sources)) (sym are.values)

    of_sources : AllByRecursion (IsKept Is IsSpec) (flat_map (source_checks features) (counting_sources sources))
    of_sources = kept_before Is IsSpec (flat_map (source_checks features) (counting_sources sources)) (value_checks bad_merged (config_in (merged_in built_in sources))) kept

    pub completed : (result : Result (LoadedConfig F S) LoadError) → Passes Is IsSpec IsTooDeep (merged_checks (all_placed (overrides_of read.rules.items)) (all_placed (scripts_of read.rules.items)) (read_as read.config)) (IsCompleted Is read.config read.rules.items) result
        → IsLoaded Is IsSpec IsTooDeep features built_in sources result
    completed (Ok config) passes = record {
      kept = kept_both Is IsSpec IsTooDeep (flat_map (source_checks features) (counting_sources sources)) (merged_checks (rules_upward sources) (script_rules_upward sources) (config_in (merged_in built_in sources))) of_sources
          (subst (AllByRecursion (IsKept Is IsSpec)) same_checks passes.0);
      values = are.values ∙ ap Ok (sym passes.1.same);
      filters = passes.1.filters;
      rules = subst (AreReadRules Is IsSpec (rules_downward sources)) (sym passes.1.rules) (overrides_downward Is IsSpec (counting_sources sources) read.rules.items are.rules);
      script_rules = subst (AreReadScriptRules Is IsSpec (script_rules_downward sources)) (sym passes.1.script_rules) (scripts_downward Is IsSpec (counting_sources sources) read.rules.items are.rules);
    }
    completed (Err told) passes =
        loaded_error told (refuses_behind Is IsSpec IsTooDeep (flat_map (source_checks features) (counting_sources sources)) (merged_checks (rules_upward sources) (script_rules_upward sources) (config_in (merged_in built_in sources))) told of_sources
        (subst (λ (checks : List Check). RefusesFor Is IsSpec IsTooDeep checks told) same_checks passes))

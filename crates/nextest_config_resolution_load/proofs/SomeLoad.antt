-- It can't be that sources are neither loaded nor refused.
use Rattle.std.proofs.Common.{◌≡◌, ℕ, Bool, false, List, [], ◌∷◌, ◌++◌, map, Option, None, Some, Ok, Err, refl, sym, ap, ◌∙◌, subst, ◌⊎◌, inl, inr}
use Rattle.std.specs.List.{AllByRecursion, flat_map}
use Rattle.toml.specs.Data.{Members}
use Rattle.toml.specs.Parse.{parse_document}
use Rattle.nextest_config_elements_identifiers.specs.declared.source_kind.ConfigSourceKind.{ConfigSourceKind}
use Rattle.nextest_config_elements_toml.specs.Reading.{Path, Reading}
use Rattle.nextest_config_elements_toml.specs.declared.bad_value.BadValue.{BadValue}
use Rattle.nextest_config_resolution_inheritance.proofs.Verdict.{one_verdict}
use Rattle.nextest_config_resolution_load.specs.Checks.{Check, broken, is_filter, is_spec, inheritance, Refusal, unread, no_toml, bad_value, both_script_tables, feature_not_enabled, bad_name, repeated_script, no_constraint, filter_and_default_filter, bad_spec, bad_rule_filter, bad_merged, unknown_group, unknown_script, unknown_wrapper, inherits_badly, bad_filter, MergedConfig, checks_of, config_in, default_check, default_checks, defined_checks, file_checks, merged_checks, document_checks, document_of, merged_in, no_rules, outcome_checks, rules_in, rules_in_file, rules_of_source, rules_upward, script_rules_upward, source_checks}
use Rattle.nextest_config_resolution_load.specs.File.{file_in}
use Rattle.nextest_config_resolution_load.specs.Laws.{SomeLoad}
use Rattle.nextest_config_resolution_load.specs.Load.{AreReadBy, Breaks, BreaksFirst, IsFilterBy, IsKept, IsLoaded, IsReadAs, IsReadBy, IsSpecBy, LoadedOverride, LoadedScriptRule, named_of, reason_of}
use Rattle.nextest_config_resolution_load.specs.Reading.{AreReadDefaults, AreReadInFile, AreRulesOf, downward}
use Rattle.nextest_config_resolution_load.specs.RuleTexts.{checks_by}
use Rattle.nextest_config_resolution_load.specs.Rules.{Conditions, both_checks, conditions_of, constraint_checks, filter_checks, listing_checks, placed_in, profile_checks, rule_checks, rules_at, script_conditions_of, script_placed_in, script_rule_checks, script_rules_at, spec_checks, text_checks, wraps_lists}
use Rattle.nextest_config_resolution_load.specs.declared.file_config.FileConfig.{FileConfig}
use Rattle.nextest_config_resolution_load.specs.declared.languages.FilterPurpose.{FilterPurpose}
use Rattle.nextest_config_resolution_load.specs.declared.languages.FilterPurpose.TheVariants as purpose
use Rattle.nextest_config_resolution_load.specs.declared.load_fault.LoadFault.{LoadFault}
use Rattle.nextest_config_resolution_load.specs.declared.load_fault.LoadFault.TheVariants as fault
use Rattle.nextest_config_resolution_load.specs.declared.load_fault.PlatformSide.{PlatformSide}
use Rattle.nextest_config_resolution_load.specs.declared.load_fault.PlatformSide.TheVariants as side
use Rattle.nextest_config_resolution_load.specs.declared.loaded_config.LoadedConfig.{LoadedConfig}
use Rattle.nextest_config_resolution_load.specs.declared.loaded_config.NamedProfile.{NamedProfile}
use Rattle.nextest_config_resolution_load.specs.declared.file_config.ProfileRules.{ProfileRules}
use Rattle.nextest_config_resolution_load.specs.declared.loaded_rule.LoadedRule.{LoadedRule}
use Rattle.nextest_config_resolution_load.specs.declared.placed_file.SourceRules.{SourceRules}
use Rattle.nextest_config_resolution_load.specs.declared.rule_id.RuleId.{RuleId}
use Rattle.nextest_config_resolution_load.specs.declared.rule_id.RuleId.TheVariants as id_of
use Rattle.nextest_config_resolution_load.proofs.Kept.{kept_before, kept_behind, kept_merged, kept_profiles, kept_sources}
use Rattle.nextest_config_resolution_load.proofs.Downward.{overrides_downward, scripts_downward}
use Rattle.nextest_config_resolution_load.proofs.Passing.{zip_both}
use Rattle.nextest_config_elements_versions.specs.declared.feature.FeatureSet.{FeatureSet}
use Rattle.nextest_config_resolution_overrides.specs.declared.placed_override.PlacedOverride.{PlacedOverride}
use Rattle.nextest_config_resolution_scripts.specs.declared.script_rule.PlacedScriptRule.{PlacedScriptRule}
use Rattle.nextest_config_resolution_sources.specs.Counting.{counting_sources}
use Rattle.nextest_config_resolution_sources.specs.declared.source.ConfigSource.{ConfigSource}
use Rattle.nextest_config_resolution_sources.specs.declared.source.ConfigSourceOutcome.{ConfigSourceOutcome}
use Rattle.nextest_config_resolution_sources.specs.declared.source.ConfigSourceOutcome.TheVariants as outcome
use Rattle.nextest_config_resolution_keys.specs.File.{Named, default_filter_in}

-- ---- a fault for each reason

-- a value that is refused at a path
abbrev bad_at : Path → BadValue
bad_at keys = record { path = record { keys = keys }; expected = record { ref_ptr = (0, 0); now = [] }; found = [] }

warnings_for : (refusal : Refusal) → (told : LoadFault) × (reason_of told ≡ refusal)
warnings_for (unread path) = (fault.Unread path [], refl)
warnings_for (no_toml path) = (fault.Toml path [], refl)
warnings_for (bad_value path keys) = (fault.BadValue path (bad_at keys), refl)
warnings_for (both_script_tables path) = (fault.BothScriptTables path, refl)
warnings_for (feature_not_enabled path feature) = (fault.FeatureNotEnabled path feature, refl)
warnings_for (bad_name path name) = (fault.BadName path name, refl)
warnings_for (repeated_script path script) = (fault.RepeatedScript path script, refl)
warnings_for (no_constraint rule) = (fault.NoConstraint rule, refl)
warnings_for (filter_and_default_filter rule) = (fault.FilterAndDefaultFilter rule, refl)
warnings_for (bad_spec rule of_side) = (fault.BadSpec rule of_side [], refl)
warnings_for (bad_rule_filter rule of_purpose) = (fault.BadRuleFilter rule of_purpose [], refl)
warnings_for (bad_merged keys) = (fault.BadMergedValue (bad_at keys), refl)
warnings_for (unknown_group rule group) = (fault.UnknownGroup rule group, refl)
warnings_for (unknown_script rule script) = (fault.UnknownScript rule script, refl)
warnings_for (unknown_wrapper rule script) = (fault.UnknownWrapper rule script, refl)
warnings_for (inherits_badly told) = (fault.Inheritance told, refl)
warnings_for (bad_filter profile) = (fault.BadFilter profile [], refl)

-- ---- a configuration for what sources come to

abbrev profile_from : Named → NamedProfile
profile_from it = record { name = it.0; config = it.1 }

profiles_again : (profiles : List Named) → map named_of (map profile_from profiles) ≡ profiles
profiles_again [] = refl
profiles_again (it ∷ profiles) = ap (λ (more : List Named). it ∷ more) (profiles_again profiles)

abbrev config_from : {F S : Type 0} → MergedConfig → List (Option F) → List (LoadedOverride F S) → List (LoadedScriptRule F S) → LoadedConfig F S
config_from it found rules scripts =
    record { profiles = map profile_from it.profiles; default_filters = found; rules = rules; script_rules = scripts; groups = it.groups; scripts = it.scripts; store_dir = it.store_dir }

module _ {F S : Type 0} (Is : IsFilterBy F) (IsSpec : IsSpecBy S) where
  -- the filter of a check that is kept
  filter_from : (profile : List ℕ) (text : Option (List ℕ)) → AllByRecursion (IsKept Is IsSpec) (default_check profile text) → (found : Option F) × IsReadAs (Is purpose.Default) text found
  filter_from profile None kept = (None, tt)
  filter_from profile (Some text) kept = (Some kept.0.0, kept.0.1)

  filters_from : (profiles : List Named) → AllByRecursion (IsKept Is IsSpec) (default_checks profiles) → (found : List (Option F)) × AreReadDefaults Is profiles found
  filters_from [] kept = ([], tt)
  filters_from (profile ∷ profiles) kept =
      let checks = default_check profile.0 (default_filter_in profile.1) in
      let here = filter_from profile.0 (default_filter_in profile.1) (kept_before Is IsSpec checks (default_checks profiles) kept) in
      let more = filters_from profiles (kept_behind Is IsSpec checks (default_checks profiles) kept) in
      (here.0 ∷ more.0, (here.1, more.1))

  -- the texts of a rule
  spec_from : (id : RuleId) (of_side : PlatformSide) (text : Option (List ℕ)) → AllByRecursion (IsKept Is IsSpec) (spec_checks id of_side text) → (found : Option S) × IsReadAs IsSpec text found
  spec_from id of_side None kept = (None, tt)
  spec_from id of_side (Some text) kept = (Some kept.0.0, kept.0.1)

  text_from : (id : RuleId) (of_purpose : FilterPurpose) (text : Option (List ℕ)) → AllByRecursion (IsKept Is IsSpec) (filter_checks id of_purpose text) → (found : Option F) × IsReadAs (Is of_purpose) text found
  text_from id of_purpose None kept = (None, tt)
  text_from id of_purpose (Some text) kept = (Some kept.0.0, kept.0.1)

  -- rules of either kind
  module _ {P : Type 0} (wraps : P → Bool) (id_of : P → RuleId) (conditions : P → Conditions) where
    rule_from : (rule : P) → AllByRecursion (IsKept Is IsSpec) (checks_by wraps id_of conditions rule) → (it : LoadedRule P F S) × IsReadBy conditions Is IsSpec rule it
    rule_from rule kept =
        let id = id_of rule in
        let config = conditions rule in
        let texts = kept_behind Is IsSpec (both_checks id config) (text_checks (wraps rule) id config)
        (kept_behind Is IsSpec (constraint_checks id config) (both_checks id config ++ text_checks (wraps rule) id config) kept) in
        let specs = spec_checks id side.Target config.target in
        let filters = filter_checks id purpose.Override config.filter in
        let defaults = filter_checks id purpose.Default config.default_filter in
        let listings = listing_checks (wraps rule) id config.filter in
        let behind = kept_behind Is IsSpec (spec_checks id side.Host config.host) (specs ++ (filters ++ (defaults ++ listings))) texts in
        let further = kept_behind Is IsSpec specs (filters ++ (defaults ++ listings)) behind in
        let host = spec_from id side.Host config.host (kept_before Is IsSpec (spec_checks id side.Host config.host) (specs ++ (filters ++ (defaults ++ listings))) texts) in
        let target = spec_from id side.Target config.target (kept_before Is IsSpec specs (filters ++ (defaults ++ listings)) behind) in
        let own = text_from id purpose.Override config.filter (kept_before Is IsSpec filters (defaults ++ listings) further) in
        let default = text_from id purpose.Default config.default_filter (kept_before Is IsSpec defaults listings (kept_behind Is IsSpec filters (defaults ++ listings) further)) in (
          record { placed = rule; compiled = record { host = host.0; target = target.0; filter = own.0; default_filter = default.0 } },
          record { same = refl; compiled = record { host = host.1; target = target.1; filter = own.1; default_filter = default.1 } },
        )

    rules_from : (rules : List P) → AllByRecursion (IsKept Is IsSpec) (flat_map (checks_by wraps id_of conditions) rules) → (it : List (LoadedRule P F S)) × AreReadBy conditions Is IsSpec rules it
    rules_from [] kept = ([], tt)
    rules_from (rule ∷ rules) kept =
        let one = rule_from rule (kept_before Is IsSpec (checks_by wraps id_of conditions rule) (flat_map (checks_by wraps id_of conditions) rules) kept) in
        let more = rules_from rules (kept_behind Is IsSpec (checks_by wraps id_of conditions rule) (flat_map (checks_by wraps id_of conditions) rules) kept) in
        (one.0 ∷ more.0, (one.1, more.1))

  -- those of profiles: overrides, and script rules
  overrides_from : (path : List ℕ) (profiles : List ProfileRules) → AllByRecursion (IsKept Is IsSpec) (flat_map (profile_checks path) profiles)
      → (it : List (LoadedOverride F S)) × AreReadBy conditions_of Is IsSpec (rules_at path profiles) it
  overrides_from path [] kept = ([], tt)
  overrides_from path (profile ∷ profiles) kept =
      let here = kept_before Is IsSpec (profile_checks path profile) (flat_map (profile_checks path) profiles) kept in
      let own = rules_from (λ rule. false) (λ rule. id_of.Override rule.id) conditions_of (placed_in path profile)
      (kept_before Is IsSpec (flat_map rule_checks (placed_in path profile)) (flat_map script_rule_checks (script_placed_in path profile)) here) in
      let more = overrides_from path profiles (kept_behind Is IsSpec (profile_checks path profile) (flat_map (profile_checks path) profiles) kept) in
      (own.0 ++ more.0, zip_both (IsReadBy conditions_of Is IsSpec) (placed_in path profile) own.0 (rules_at path profiles) more.0 own.1 more.1)

  scripts_from : (path : List ℕ) (profiles : List ProfileRules) → AllByRecursion (IsKept Is IsSpec) (flat_map (profile_checks path) profiles)
      → (it : List (LoadedScriptRule F S)) × AreReadBy script_conditions_of Is IsSpec (script_rules_at path profiles) it
  scripts_from path [] kept = ([], tt)
  scripts_from path (profile ∷ profiles) kept =
      let here = kept_before Is IsSpec (profile_checks path profile) (flat_map (profile_checks path) profiles) kept in
      let own = rules_from wraps_lists (λ rule. id_of.Script rule.id) script_conditions_of (script_placed_in path profile)
      (kept_behind Is IsSpec (flat_map rule_checks (placed_in path profile)) (flat_map script_rule_checks (script_placed_in path profile)) here) in
      let more = scripts_from path profiles (kept_behind Is IsSpec (profile_checks path profile) (flat_map (profile_checks path) profiles) kept) in
      (own.0 ++ more.0, zip_both (IsReadBy script_conditions_of Is IsSpec) (script_placed_in path profile) own.0 (script_rules_at path profiles) more.0 own.1 more.1)

  -- the rules of a source
  no_rules_from : (it : SourceRules F S) × AreReadInFile Is IsSpec no_rules it
  no_rules_from = (record { overrides = []; scripts = [] }, record { overrides = tt; scripts = tt })

  file_from : (features : FeatureSet) (path : List ℕ) (kind : ConfigSourceKind) (given : Reading FileConfig) → AllByRecursion (IsKept Is IsSpec) (file_checks features path kind given)
      → (it : SourceRules F S) × AreReadInFile Is IsSpec (rules_in_file path given) it
  file_from features path kind (Err keys) kept = no_rules_from
  file_from features path kind (Ok config) kept =
      let behind = kept_behind Is IsSpec (defined_checks features path kind config) (flat_map (profile_checks path) config.profiles) kept in
      let overrides = overrides_from path config.profiles behind in
      let scripts = scripts_from path config.profiles behind in
      (record { overrides = overrides.0; scripts = scripts.0 }, record { overrides = overrides.1; scripts = scripts.1 })

  document_from : (features : FeatureSet) (path : List ℕ) (kind : ConfigSourceKind) (given : Option Members) → AllByRecursion (IsKept Is IsSpec) (document_checks features path kind given)
      → (it : SourceRules F S) × AreReadInFile Is IsSpec (rules_in path given) it
  document_from features path kind None kept = no_rules_from
  document_from features path kind (Some file) kept = file_from features path kind (file_in file) kept

  outcome_from : (features : FeatureSet) (path : List ℕ) (kind : ConfigSourceKind) (given : ConfigSourceOutcome) → AllByRecursion (IsKept Is IsSpec) (outcome_checks features path kind given)
      → (it : SourceRules F S) × AreReadInFile Is IsSpec (rules_in path (document_of given)) it
  outcome_from features path kind (outcome.Text text) kept = document_from features path kind (parse_document text) kept
  outcome_from features path kind outcome.NotFound kept = no_rules_from
  outcome_from features path kind (outcome.Failed cause) kept = no_rules_from

  source_from : (features : FeatureSet) (source : ConfigSource) → AllByRecursion (IsKept Is IsSpec) (source_checks features source) → (it : SourceRules F S) × AreReadInFile Is IsSpec (rules_of_source source) it
  source_from features source kept = outcome_from features source.path source.kind source.outcome kept

  -- those of all sources
  each_from : (features : FeatureSet) (sources : List ConfigSource) → AllByRecursion (IsKept Is IsSpec) (flat_map (source_checks features) sources)
      → (all : List (SourceRules F S)) × AreRulesOf Is IsSpec sources all
  each_from features [] kept = ([], tt)
  each_from features (source ∷ sources) kept =
      let one = source_from features source (kept_before Is IsSpec (source_checks features source) (flat_map (source_checks features) sources) kept) in
      let more = each_from features sources (kept_behind Is IsSpec (source_checks features source) (flat_map (source_checks features) sources) kept) in
      (one.0 ∷ more.0, (one.1, more.1))

  -- what all checks of sources come to, where they are kept
  config_at : (rules : List PlacedOverride) (scripts : List PlacedScriptRule) (reading : Reading MergedConfig) → AllByRecursion (IsKept Is IsSpec) (merged_checks rules scripts reading)
      → (config : MergedConfig) × (reading ≡ Ok config) × ((found : List (Option F)) × AreReadDefaults Is config.profiles found)
  config_at rules scripts (Err keys) kept = absurd kept.0
  config_at rules scripts (Ok config) kept = (config, refl, filters_from config.profiles (kept_profiles Is IsSpec rules scripts config kept).1)

  config_of : (IsTooDeep : List ℕ → Type 0) (features : FeatureSet) (built_in : Members) (sources : List ConfigSource) → AllByRecursion (IsKept Is IsSpec) (checks_of features built_in sources)
      → (it : LoadedConfig F S) × IsLoaded Is IsSpec IsTooDeep features built_in sources (Ok it)
  config_of IsTooDeep features built_in sources kept =
      let given = config_at (rules_upward sources) (script_rules_upward sources) (config_in (merged_in built_in sources)) (kept_merged Is IsSpec features built_in sources kept) in
      let rules = each_from features (counting_sources sources) (kept_sources Is IsSpec features built_in sources kept) in
      let config = given.0 in
      let found = given.2.0 in
      let again = sym (profiles_again config.profiles) in (
        config_from config found (downward (λ own. own.overrides) rules.0) (downward (λ own. own.scripts) rules.0),
        record {
          kept = kept;
          values = given.1 ∙ ap (λ (all : List Named). Ok (record config { profiles = all })) again;
          filters = subst (λ (all : List Named). AreReadDefaults Is all found) again given.2.1;
          rules = overrides_downward Is IsSpec (counting_sources sources) rules.0 rules.1;
          script_rules = scripts_downward Is IsSpec (counting_sources sources) rules.0 rules.1;
        },
      )

-- ---- each check is kept or broken, though no law decides which

abbrev AreDecided : {F S : Type 0} → IsFilterBy F → IsSpecBy S → (List ℕ → Type 0) → List Check → Type 0
AreDecided Is IsSpec IsTooDeep checks = AllByRecursion (IsKept Is IsSpec) checks ⊎ ((told : Refusal) × BreaksFirst Is IsSpec IsTooDeep checks told)

module _ {F S : Type 0} (Is : IsFilterBy F) (IsSpec : IsSpecBy S) (IsTooDeep : List ℕ → Type 0) where
  one_decided : (check : Check) → ¬ ¬ (IsKept Is IsSpec check ⊎ ((told : Refusal) × Breaks Is IsSpec IsTooDeep check told))
  one_decided (broken refusal) neither = neither (inr (refusal, refl))
  one_decided (inheritance parents) neither =
      neither (elim (one_verdict parents) [
        | inl accepted ↦ inl accepted
        | inr (told, first) ↦ inr (inherits_badly told, (told, refl, first))
      ])
  one_decided (is_filter of_purpose text refusal) neither = neither (inr (refusal, (refl, inl (λ it is. neither (inl (it, is))))))
  one_decided (is_spec text refusal) neither = neither (inr (refusal, (refl, λ it is. neither (inl (it, is)))))

  -- a check, and those behind it
  kept_first : (check : Check) (checks : List Check) → ¬ AreDecided Is IsSpec IsTooDeep (check ∷ checks) → IsKept Is IsSpec check → ¬ AreDecided Is IsSpec IsTooDeep checks
  kept_first check checks neither kept (inl all) = neither (inl (kept, all))
  kept_first check checks neither kept (inr (told, breaks)) = neither (inr (told, inr (kept, breaks)))

  first_decided : (check : Check) (checks : List Check) → ¬ ¬ AreDecided Is IsSpec IsTooDeep checks → ¬ AreDecided Is IsSpec IsTooDeep (check ∷ checks)
      → ¬ (IsKept Is IsSpec check ⊎ ((told : Refusal) × Breaks Is IsSpec IsTooDeep check told))
  first_decided check checks more neither (inl kept) = more (kept_first check checks neither kept)
  first_decided check checks more neither (inr (told, breaks)) = neither (inr (told, inl breaks))

  all_decided : (checks : List Check) → ¬ ¬ AreDecided Is IsSpec IsTooDeep checks
  all_decided [] neither = neither (inl tt)
  all_decided (check ∷ checks) neither = one_decided check (first_decided check checks (all_decided checks) neither)

  pub some_load : SomeLoad Is IsSpec IsTooDeep
  some_load features built_in sources neither = all_decided (checks_of features built_in sources) decided where
    decided : AreDecided Is IsSpec IsTooDeep (checks_of features built_in sources) → ⊥
    decided (inl kept) = neither (inl (config_of Is IsSpec IsTooDeep features built_in sources kept))
    decided (inr (refusal, breaks)) =
        let told = warnings_for refusal in
        neither (inr (told.0, subst (λ (reason : Refusal). BreaksFirst Is IsSpec IsTooDeep (checks_of features built_in sources) reason) (sym told.1) breaks))

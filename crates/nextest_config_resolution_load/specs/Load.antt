-- What a configuration comes to, or why it is refused. A text is a filter by `Is`, for what filters
-- are for, and a platform spec by `IsSpec`; the reader may also refuse a filter for which
-- `IsTooDeep` holds, where it reads it.
use Rattle.std.specs.Prelude.{◌≡◌, ◌⊎◌, ℕ, List, [], ◌∷◌, map, Option, None, Some, Result, Ok, Err, ⊤}
use Rattle.std.specs.List.{AllByRecursion, AllZip}
use Rattle.toml.specs.Data.{Members}
use Rattle.nextest_config_resolution_inheritance.specs.Inheritance.{IsAccepted}
use Rattle.nextest_config_resolution_inheritance.specs.Refusals.{IsFirstFault}
use Rattle.nextest_config_resolution_inheritance.specs.declared.inheritance_fault.InheritanceFault.{InheritanceFault}
use Rattle.nextest_config_elements_versions.specs.declared.feature.FeatureSet.{FeatureSet}
use Rattle.nextest_config_resolution_overrides.specs.declared.placed_override.PlacedOverride.{PlacedOverride}
use Rattle.nextest_config_resolution_scripts.specs.declared.script_rule.PlacedScriptRule.{PlacedScriptRule}
use Rattle.nextest_config_resolution_sources.specs.declared.source.ConfigSource.{ConfigSource}
use Rattle.nextest_config_resolution_keys.specs.File.{Named, default_filter_in}
use Rattle.nextest_config_resolution_load.specs.Checks.{Check, broken, is_filter, is_spec, inheritance, Refusal, unread, no_toml, bad_value, both_script_tables, feature_not_enabled, bad_name, repeated_script, no_constraint, filter_and_default_filter, bad_spec, bad_rule_filter, bad_merged, unknown_group, unknown_script, unknown_wrapper, inherits_badly, bad_filter, MergedConfig, checks_of, config_in, merged_in, rules_downward, script_rules_downward}
use Rattle.nextest_config_resolution_load.specs.Rules.{Conditions, conditions_of, script_conditions_of}
use Rattle.nextest_config_resolution_load.specs.declared.languages.FilterPurpose.{FilterPurpose}
use Rattle.nextest_config_resolution_load.specs.declared.languages.FilterPurpose.TheVariants as purpose
use Rattle.nextest_config_resolution_load.specs.declared.load_error.LoadError.{LoadError}
use Rattle.nextest_config_resolution_load.specs.declared.load_error.LoadError.TheVariants as error
use Rattle.nextest_config_resolution_load.specs.declared.load_fault.LoadFault.{LoadFault}
use Rattle.nextest_config_resolution_load.specs.declared.load_fault.LoadFault.TheVariants as fault
use Rattle.nextest_config_resolution_load.specs.declared.loaded_config.LoadedConfig.{LoadedConfig}
use Rattle.nextest_config_resolution_load.specs.declared.loaded_config.NamedProfile.{NamedProfile}
use Rattle.nextest_config_resolution_load.specs.declared.loaded_rule.CompiledRule.{CompiledRule}
use Rattle.nextest_config_resolution_load.specs.declared.loaded_rule.LoadedRule.{LoadedRule}

-- which filter a text is, by what it is for, and which platform spec
abbrev pub IsFilterBy : Type 0 → Type 1
IsFilterBy F = FilterPurpose → List ℕ → F → Type 0

abbrev pub IsSpecBy : Type 0 → Type 1
IsSpecBy S = List ℕ → S → Type 0

-- ---- checks that are kept, and the first that is broken

abbrev pub IsKept : {F S : Type 0} → IsFilterBy F → IsSpecBy S → Check → Type 0
IsKept {F} {S} Is IsSpec (broken refusal) = ⊥
IsKept {F} {S} Is IsSpec (is_filter of_purpose text refusal) = (it : F) × Is of_purpose text it
IsKept {F} {S} Is IsSpec (is_spec text refusal) = (it : S) × IsSpec text it
IsKept {F} {S} Is IsSpec (inheritance parents) = IsAccepted parents

-- a text is read for this; for a `list-wrapper` it isn't, since it was read as the filter of its rule
abbrev pub IsReadFor : FilterPurpose → Type 0
IsReadFor purpose.Default = ⊤
IsReadFor purpose.Override = ⊤
IsReadFor purpose.ListWrapper = ⊥

-- a check is broken, for this
abbrev pub Breaks : {F S : Type 0} → IsFilterBy F → IsSpecBy S → (List ℕ → Type 0) → Check → Refusal → Type 0
Breaks {F} {S} Is IsSpec IsTooDeep (broken refusal) told = told ≡ refusal
Breaks {F} {S} Is IsSpec IsTooDeep (is_filter of_purpose text refusal) told = (told ≡ refusal) × (((it : F) → Is of_purpose text it → ⊥) ⊎ (IsReadFor of_purpose × IsTooDeep text))
Breaks {F} {S} Is IsSpec IsTooDeep (is_spec text refusal) told = (told ≡ refusal) × ((it : S) → IsSpec text it → ⊥)
Breaks {F} {S} Is IsSpec IsTooDeep (inheritance parents) told = (fault : InheritanceFault) × (told ≡ inherits_badly fault) × IsFirstFault parents fault

-- it is, and those before it are kept
abbrev pub BreaksFirst : {F S : Type 0} → IsFilterBy F → IsSpecBy S → (List ℕ → Type 0) → List Check → Refusal → Type 0
BreaksFirst Is IsSpec IsTooDeep [] told = ⊥
BreaksFirst Is IsSpec IsTooDeep (check ∷ checks) told =
    Breaks Is IsSpec IsTooDeep check told ⊎ (IsKept Is IsSpec check × BreaksFirst Is IsSpec IsTooDeep checks told)

-- ---- configurations

-- a configuration as its values
abbrev pub named_of : NamedProfile → Named
named_of it = (it.name, it.config)

abbrev pub merged_of : {F S : Type 0} → LoadedConfig F S → MergedConfig
merged_of it = record { profiles = map named_of it.profiles; store_dir = it.store_dir; groups = it.groups; scripts = it.scripts }

-- what a text is, where there is a text
abbrev pub IsReadAs : {A : Type 0} → (List ℕ → A → Type 0) → Option (List ℕ) → Option A → Type 0
IsReadAs {A} Is None None = ⊤
IsReadAs {A} Is None (Some it) = ⊥
IsReadAs {A} Is (Some text) None = ⊥
IsReadAs {A} Is (Some text) (Some it) = Is text it

-- what the texts of a rule are
pub record IsCompiledRule {F S : Type 0} (Is : IsFilterBy F) (IsSpec : IsSpecBy S) (texts : Conditions) (it : CompiledRule F S) : Type 0 where
  pub host : IsReadAs IsSpec texts.host it.host
  pub target : IsReadAs IsSpec texts.target it.target
  pub filter : IsReadAs (Is purpose.Override) texts.filter it.filter
  pub default_filter : IsReadAs (Is purpose.Default) texts.default_filter it.default_filter

-- a rule, with what its texts are
pub record IsReadBy {P F S : Type 0} (conditions : P → Conditions) (Is : IsFilterBy F) (IsSpec : IsSpecBy S) (rule : P) (it : LoadedRule P F S) : Type 0 where
  pub same : it.placed ≡ rule
  pub compiled : IsCompiledRule Is IsSpec (conditions rule) it.compiled

abbrev pub AreReadBy : {P F S : Type 0} → (P → Conditions) → IsFilterBy F → IsSpecBy S → List P → List (LoadedRule P F S) → Type 0
AreReadBy conditions Is IsSpec rules loaded = AllZip (IsReadBy conditions Is IsSpec) rules loaded

-- overrides, and script rules
abbrev pub LoadedOverride : Type 0 → Type 0 → Type 0
LoadedOverride F S = LoadedRule PlacedOverride F S

abbrev pub LoadedScriptRule : Type 0 → Type 0 → Type 0
LoadedScriptRule F S = LoadedRule PlacedScriptRule F S

abbrev pub IsReadRule : {F S : Type 0} → IsFilterBy F → IsSpecBy S → PlacedOverride → LoadedOverride F S → Type 0
IsReadRule Is IsSpec rule it = IsReadBy conditions_of Is IsSpec rule it

abbrev pub AreReadRules : {F S : Type 0} → IsFilterBy F → IsSpecBy S → List PlacedOverride → List (LoadedOverride F S) → Type 0
AreReadRules Is IsSpec rules loaded = AreReadBy conditions_of Is IsSpec rules loaded

abbrev pub AreReadScriptRules : {F S : Type 0} → IsFilterBy F → IsSpecBy S → List PlacedScriptRule → List (LoadedScriptRule F S) → Type 0
AreReadScriptRules Is IsSpec rules loaded = AreReadBy script_conditions_of Is IsSpec rules loaded

-- a configuration is what sources come to: all checks are kept, and these are its values, filters
-- and rules
pub record IsLoadedAs {F S : Type 0} (Is : IsFilterBy F) (IsSpec : IsSpecBy S) (features : FeatureSet) (built_in : Members)
    (sources : List ConfigSource) (it : LoadedConfig F S) : Type 0 where
  pub kept : AllByRecursion (IsKept Is IsSpec) (checks_of features built_in sources)
  pub values : config_in (merged_in built_in sources) ≡ Ok (merged_of it)
  pub filters : AllZip (λ profile found. IsReadAs (Is purpose.Default) (default_filter_in profile.1) found) (merged_of it).profiles it.default_filters
  pub rules : AreReadRules Is IsSpec (rules_downward sources) it.rules
  pub script_rules : AreReadScriptRules Is IsSpec (script_rules_downward sources) it.script_rules

-- what a fault tells, without its words
abbrev pub reason_of : LoadFault → Refusal
reason_of (fault.Unread path cause) = unread path
reason_of (fault.Toml path message) = no_toml path
reason_of (fault.BadValue path value) = bad_value path value.path.keys
reason_of (fault.BothScriptTables path) = both_script_tables path
reason_of (fault.FeatureNotEnabled path feature) = feature_not_enabled path feature
reason_of (fault.BadName path name) = bad_name path name
reason_of (fault.RepeatedScript path script) = repeated_script path script
reason_of (fault.NoConstraint rule) = no_constraint rule
reason_of (fault.FilterAndDefaultFilter rule) = filter_and_default_filter rule
reason_of (fault.BadSpec rule side text) = bad_spec rule side
reason_of (fault.BadRuleFilter rule of_purpose text) = bad_rule_filter rule of_purpose
reason_of (fault.BadMergedValue value) = bad_merged value.path.keys
reason_of (fault.UnknownGroup rule group) = unknown_group rule group
reason_of (fault.UnknownScript rule script) = unknown_script rule script
reason_of (fault.UnknownWrapper rule script) = unknown_wrapper rule script
reason_of (fault.Inheritance told) = inherits_badly told
reason_of (fault.BadFilter profile text) = bad_filter profile

-- sources are loaded, or refused for the first check that is broken; want of memory says nothing of
-- them
abbrev pub IsLoaded : {F S : Type 0} → IsFilterBy F → IsSpecBy S → (List ℕ → Type 0) → FeatureSet → Members → List ConfigSource
    → Result (LoadedConfig F S) LoadError → Type 0
IsLoaded Is IsSpec IsTooDeep features built_in sources (Ok it) = IsLoadedAs Is IsSpec features built_in sources it
IsLoaded Is IsSpec IsTooDeep features built_in sources (Err (error.Refused told)) =
    BreaksFirst Is IsSpec IsTooDeep (checks_of features built_in sources) (reason_of told)
IsLoaded Is IsSpec IsTooDeep features built_in sources (Err error.OutOfMemory) = ⊤

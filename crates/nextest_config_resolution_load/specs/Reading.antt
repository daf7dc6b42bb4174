-- What calls of this crate give on their way to a configuration.
use Rattle.std.specs.Prelude.{◌≡◌, ℕ, Bool, not, List, ◌++◌, codes, map, reverse, filter_map, Option, None, Some, Result, Ok, Err, ⊤}
use Rattle.std.specs.BTreeSet.{BTreeSet, contains_by}
use Rattle.std.specs.Cmp.Lexicographic.{slice_cmp}
use Rattle.std.specs.List.{AllZip, flat_map}
use Rattle.std.specs.Ordering.{nat_cmp}
use denote.Ref.{Bor}
use Rattle.toml.specs.Data.{Data, Members}
use Rattle.toml.specs.View.{table_view}
use Rattle.nextest_config_elements_toml.specs.Reading.{Reading, ◌>>=◌, under}
use Rattle.nextest_config_elements_toml.specs.declared.value_error.ValueError.{ValueError}
use Rattle.nextest_config_elements_toml.specs.declared.value_error.ValueError.TheVariants as error
use Rattle.nextest_config_resolution_inheritance.specs.Inheritance.{Rise}
use Rattle.nextest_config_resolution_load.specs.Checks.{Check, FileRules, must_hold, repeated_script, MergedConfig, bad_merged, config_in, file_of, file_with_setup, merged_in, no_toml, parents_of, rules_of_source, source_checks, value_checks}
use Rattle.nextest_config_resolution_load.specs.Load.{AreReadRules, AreReadScriptRules, IsFilterBy, IsReadAs, IsSpecBy, LoadedOverride, LoadedScriptRule, named_of, reason_of, merged_of}
use Rattle.nextest_config_resolution_load.specs.Rules.{rules_at, script_placed_in, script_rules_at}
use Rattle.nextest_config_resolution_load.specs.Rules as words
use Rattle.nextest_config_resolution_load.specs.declared.file_config.ProfileRules.{ProfileRules}
use Rattle.nextest_config_resolution_load.specs.declared.languages.FilterPurpose.TheVariants as purpose
use Rattle.nextest_config_resolution_load.specs.declared.load_error.LoadError.{LoadError}
use Rattle.nextest_config_resolution_load.specs.declared.load_error.LoadError.TheVariants as told_error
use Rattle.nextest_config_resolution_load.specs.declared.loaded_config.LoadedConfig.{LoadedConfig}
use Rattle.nextest_config_resolution_load.specs.declared.loaded_config.ReadConfig.{ReadConfig}
use Rattle.nextest_config_resolution_load.specs.declared.loaded_rule.LoadedRule.{LoadedRule}
use Rattle.nextest_config_resolution_load.specs.declared.placed_file.ReadFiles.{ReadFiles}
use Rattle.nextest_config_resolution_load.specs.declared.placed_file.ReadSources.{ReadSources}
use Rattle.nextest_config_resolution_load.specs.declared.placed_file.SourceRules.{SourceRules}
use Rattle.nextest_config_elements_versions.specs.declared.feature.FeatureSet.{FeatureSet}
use Rattle.nextest_config_resolution_sources.specs.Counting.{counting_sources}
use Rattle.nextest_config_resolution_sources.specs.declared.source.ConfigSource.{ConfigSource}
use Rattle.nextest_config_resolution_keys.specs.File.{Named, default_filter_in}
use Rattle.nextest_config_resolution_keys.specs.Profile.{profile_of}

-- a call gives what reading gives, seen as such; want of memory says nothing
abbrev pub GivesSeen : {A B : Type 0} → (A → B) → Result A ValueError → Reading B → Type 0
GivesSeen view (Ok x) reading = reading ≡ Ok (view x)
GivesSeen view (Err (error.Refused bad)) reading = reading ≡ Err bad.path.keys
GivesSeen view (Err error.OutOfMemory) reading = ⊤

-- ---- the rules of sources

-- those of a file
pub record AreReadInFile {F S : Type 0} (Is : IsFilterBy F) (IsSpec : IsSpecBy S) (rules : FileRules) (it : SourceRules F S) : Type 0 where
  pub overrides : AreReadRules Is IsSpec rules.overrides it.overrides
  pub scripts : AreReadScriptRules Is IsSpec rules.scripts it.scripts

-- those of a profile, and of some profiles
abbrev pub rules_of_profile : List ℕ → ProfileRules → FileRules
rules_of_profile path it = record { overrides = words.placed_in path it; scripts = script_placed_in path it }

abbrev pub rules_of_profiles : List ℕ → List ProfileRules → FileRules
rules_of_profiles path profiles = record { overrides = rules_at path profiles; scripts = script_rules_at path profiles }

-- those of each of some sources
abbrev pub AreRulesOf : {F S : Type 0} → IsFilterBy F → IsSpecBy S → List ConfigSource → List (SourceRules F S) → Type 0
AreRulesOf Is IsSpec sources all = AllZip (λ source own. AreReadInFile Is IsSpec (rules_of_source source) own) sources all

-- what rules say, of one list and of some
abbrev pub placed_in : {P F S : Type 0} → LoadedRule P F S → P
placed_in it = it.placed

abbrev pub placed_of : {P F S : Type 0} → List (LoadedRule P F S) → List P
placed_of own = map placed_in own

abbrev pub all_placed : {P F S : Type 0} → List (List (LoadedRule P F S)) → List P
all_placed all = flat_map placed_of all

-- lists of some, one behind another, the last first
abbrev pub downward : {A B : Type 0} → (A → List B) → List A → List B
downward own all = flat_map own (reverse all)

-- the overrides of sources, and their script rules
abbrev pub overrides_of : {F S : Type 0} → List (SourceRules F S) → List (List (LoadedOverride F S))
overrides_of all = map (λ own. own.overrides) all

abbrev pub scripts_of : {F S : Type 0} → List (SourceRules F S) → List (List (LoadedScriptRule F S))
scripts_of all = map (λ own. own.scripts) all

-- ---- a file

-- a call parses the text of a file, or it is no TOML; want of memory says nothing
abbrev pub ParsesText : {T : Type 0} → (T → Members) → List ℕ → Option Members → Result T LoadError → Type 0
ParsesText view path given (Ok it) = given ≡ Some (view it)
ParsesText view path given (Err (told_error.Refused told)) = (given ≡ None) × (reason_of told ≡ no_toml path)
ParsesText view path given (Err told_error.OutOfMemory) = ⊤

-- what was read of some sources: their files, with their setup scripts where they stand now, and
-- their rules
pub record AreReadFiles {F S : Type 0} (Is : IsFilterBy F) (IsSpec : IsSpecBy S) (sources : List ConfigSource) (it : ReadFiles F S) : Type 0 where
  pub files : map table_view it.files.items ≡ map file_with_setup (filter_map file_of sources)
  pub rules : AreRulesOf Is IsSpec sources it.rules.items

-- ---- names

-- a set has a name
abbrev pub has_name : BTreeSet (Bor (List ℕ)) → List ℕ → Bool
has_name names name = contains_by (λ key. slice_cmp nat_cmp name key.now) names

-- a name isn't in a set
abbrev pub not_among : List ℕ → BTreeSet (Bor (List ℕ)) → List ℕ → List Check
not_among path names id = must_hold (not (has_name names id)) (repeated_script path id)

-- ---- the profiles and groups of a merged tree

-- the profile of a name, by what stands there
abbrev pub profile_at : List ℕ → Data → Reading Named
profile_at name given = do
  config ← under (codes "profile") (under name (profile_of given))
  Ok (name, config)

-- what was read, as its values
abbrev pub values_of : ReadConfig → MergedConfig
values_of it = record { profiles = map named_of it.profiles; store_dir = it.store_dir; groups = it.groups; scripts = it.scripts }

abbrev pub read_as : ReadConfig → Reading MergedConfig
read_as it = Ok (values_of it)

-- the default filters that profiles set
abbrev pub AreReadDefaults : {F : Type 0} → IsFilterBy F → List Named → List (Option F) → Type 0
AreReadDefaults Is profiles found = AllZip (λ profile filter. IsReadAs (Is purpose.Default) (default_filter_in profile.1) filter) profiles found

-- ---- all of it

-- what is checked of sources, and of what they come to, before it is asked which groups there are
-- and how profiles inherit
abbrev pub early_checks : FeatureSet → Members → List ConfigSource → List Check
early_checks features built_in sources = flat_map (source_checks features) (counting_sources sources) ++ value_checks bad_merged (config_in (merged_in built_in sources))

-- what was read of the sources that count
pub record AreReadSources {F S : Type 0} (Is : IsFilterBy F) (IsSpec : IsSpecBy S) (built_in : Members) (sources : List ConfigSource) (it : ReadSources F S) : Type 0 where
  pub values : config_in (merged_in built_in sources) ≡ read_as it.config
  pub rises : Rise (parents_of (values_of it.config).profiles)
  pub rules : AreRulesOf Is IsSpec (counting_sources sources) it.rules.items

-- a configuration is what was read, with its default filters and the overrides of all sources
pub record IsCompleted {F S : Type 0} (Is : IsFilterBy F) (read : ReadConfig) (of_sources : List (SourceRules F S)) (it : LoadedConfig F S) : Type 0 where
  pub same : merged_of it ≡ values_of read
  pub filters : AreReadDefaults Is (merged_of it).profiles it.default_filters
  pub rules : it.rules ≡ downward (λ own. own.overrides) of_sources
  pub script_rules : it.script_rules ≡ downward (λ own. own.scripts) of_sources

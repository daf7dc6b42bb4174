-- What the laws say.
use Rattle.std.specs.Prelude.{◌≡◌, ◌⊎◌, ℕ, true, List, Option, Some, Ok, Err, All, Contains}
use Rattle.std.specs.List.{AllByRecursion}
use Rattle.nextest_config_resolution_inheritance.specs.Inheritance.{Name}
use Rattle.nextest_config_resolution_load.specs.Load.{IsFilterBy, IsReadBy, IsReadRule, IsSpecBy}
use Rattle.nextest_config_resolution_load.specs.Laws.{HasGroup, HasScripts}
use Rattle.nextest_config_resolution_load.specs.Rules.{script_conditions_of}
use Rattle.nextest_config_resolution_load.specs.declared.languages.FilterPurpose.TheVariants as purpose
use Rattle.nextest_config_resolution_load.specs.declared.load_error.LoadError.TheVariants.{Refused}
use Rattle.nextest_config_resolution_load.specs.declared.load_fault.LoadFault.{LoadFault}
use Rattle.nextest_config_resolution_sources.specs.declared.source.ConfigSource.{ConfigSource}
use Rattle.nextest_config_resolution_keys.specs.File.{Named}
use Rattle.nextest_config_resolution_keys.specs.Keys.{Key}
use Rattle.nextest_config_resolution_keys.specs.declared.profile_config.ProfileConfig.{ProfileConfig}
use Rattle.nextest_config_resolution_profiles.specs.BuiltIn.{default_members}
use Rattle.nextest_config_resolution_profiles.specs.BuiltInLaws.{has_at}
use Rattle.nextest_config_resolution_profiles.specs.Config.{IsChainOf, IsConfig, IsDefaultFilterOf, IsEarly, names_of, profiles_of, values_of}
use Rattle.nextest_config_resolution_profiles.specs.Early.{Early}
use Rattle.nextest_config_resolution_profiles.specs.Whole.{Whole}
use Rattle.nextest_config_resolution_settings.specs.Nearest.{SetsNone}
use Rattle.nextest_config_resolution_settings.specs.declared.default_filter.CompiledDefaultFilter.{CompiledDefaultFilter}
use Rattle.nextest_config_elements_versions.specs.declared.feature.FeatureSet.{FeatureSet}

-- the chain of a profile has one list of values
abbrev pub OneProfile : Type 0
OneProfile = (profiles : List Named) (name : Name) (a b : List ProfileConfig) → IsChainOf profiles name a → IsChainOf profiles name b → a ≡ b

-- It can't be that sources neither come to a configuration nor break a rule. No law decides whether
-- a text is a filter, so it is said in this form.
abbrev pub SomeConfig : {F S : Type 0} → IsFilterBy F → IsSpecBy S → (List ℕ → Type 0) → Type 0
SomeConfig {F} {S} Is IsSpec IsTooDeep = (features : FeatureSet) (root : List ℕ) (sources : List ConfigSource)
    → ¬ ¬ (((config : Whole F S) × IsConfig Is IsSpec IsTooDeep features root sources (Ok config)) ⊎ ((fault : LoadFault) × IsConfig Is IsSpec IsTooDeep features root sources (Err (Refused fault))))

-- a name has a chain in a configuration, or none of its profiles has the name
abbrev pub SomeChain : {F S : Type 0} → IsFilterBy F → IsSpecBy S → (List ℕ → Type 0) → Type 0
SomeChain {F} {S} Is IsSpec IsTooDeep = (features : FeatureSet) (root : List ℕ) (sources : List ConfigSource) (config : Whole F S) (name : Name) → IsConfig Is IsSpec IsTooDeep features root sources (Ok config)
    → ((values : List ProfileConfig) × IsChainOf (profiles_of config) name values) ⊎ ¬ Contains (names_of config) name

-- the chain of a profile hangs on the profiles in it alone
abbrev pub SameChain : Type 0
SameChain = (profiles others : List Named) (name : Name) (values : List ProfileConfig) (chain : IsChainOf profiles name values)
    → All (λ it. values_of others it ≡ values_of profiles it) chain.names → IsChainOf others name values

-- the default filter of a chain is the one of its text
abbrev pub DefaultIsRead : {F S : Type 0} → IsFilterBy F → IsSpecBy S → (List ℕ → Type 0) → Type 0
DefaultIsRead {F} {S} Is IsSpec IsTooDeep = (features : FeatureSet) (root : List ℕ) (sources : List ConfigSource) (config : Whole F S) (names : List Name) (chain : List ProfileConfig) (it : CompiledDefaultFilter F)
    → IsConfig Is IsSpec IsTooDeep features root sources (Ok config) → (of : IsDefaultFilterOf config.loaded.profiles config.loaded.default_filters names chain it) → Is purpose.Default of.text it.filter.now

-- a configuration sets the directory of its store
abbrev pub SetsStoreDir : {F S : Type 0} → IsFilterBy F → IsSpecBy S → (List ℕ → Type 0) → Type 0
SetsStoreDir {F} {S} Is IsSpec IsTooDeep = (features : FeatureSet) (root : List ℕ) (sources : List ConfigSource) (config : Whole F S) → IsConfig Is IsSpec IsTooDeep features root sources (Ok config)
    → (dir : List ℕ) × (config.loaded.store_dir ≡ Some dir)

-- each chain of a configuration sets a key that the built-in `default` has, whatever files say
abbrev pub NeverFallsBack : {F S V : Type 0} → IsFilterBy F → IsSpecBy S → (List ℕ → Type 0) → Key V → (ProfileConfig → Option V) → Type 0
NeverFallsBack {F} {S} Is IsSpec IsTooDeep key set_by = (features : FeatureSet) (root : List ℕ) (sources : List ConfigSource) (config : Whole F S) → IsConfig Is IsSpec IsTooDeep features root sources (Ok config)
    → has_at key.path default_members ≡ true → (name : Name) (chain : List ProfileConfig) → IsChainOf (profiles_of config) name chain → ¬ SetsNone set_by chain

-- each rule of a configuration has the filters and specs of its texts
abbrev pub RulesAreRead : {F S : Type 0} → IsFilterBy F → IsSpecBy S → (List ℕ → Type 0) → Type 0
RulesAreRead {F} {S} Is IsSpec IsTooDeep = (features : FeatureSet) (root : List ℕ) (sources : List ConfigSource) (config : Whole F S) → IsConfig Is IsSpec IsTooDeep features root sources (Ok config)
    → All (λ rule. IsReadRule Is IsSpec rule.placed rule) config.loaded.rules

abbrev pub ScriptRulesAreRead : {F S : Type 0} → IsFilterBy F → IsSpecBy S → (List ℕ → Type 0) → Type 0
ScriptRulesAreRead {F} {S} Is IsSpec IsTooDeep = (features : FeatureSet) (root : List ℕ) (sources : List ConfigSource) (config : Whole F S) → IsConfig Is IsSpec IsTooDeep features root sources (Ok config)
    → All (λ rule. IsReadBy script_conditions_of Is IsSpec rule.placed rule) config.loaded.script_rules

-- what the rules of a profile name is defined: the scripts of its script rules, and the groups of
-- its overrides
pub record AreDefined {F S : Type 0} (it : Early F S) : Type 0 where
  pub scripts : AllByRecursion (λ rule. HasScripts it.scripts rule.placed.config) it.script_rules
  pub groups : AllByRecursion (λ rule. HasGroup it.groups rule.placed.config.rule.test_group) it.rules

abbrev pub NothingIsUndefined : {F S : Type 0} → IsFilterBy F → IsSpecBy S → (List ℕ → Type 0) → Type 0
NothingIsUndefined {F} {S} Is IsSpec IsTooDeep = (features : FeatureSet) (root : List ℕ) (sources : List ConfigSource) (config : Whole F S) (name : Name) (it : Early F S)
    → IsConfig Is IsSpec IsTooDeep features root sources (Ok config) → IsEarly config name it → AreDefined it

-- A whole configuration, and its profiles.
use Rattle.std.specs.Prelude.{◌≡◌, ℕ, ◌==◌, Bool, ◌||◌, List, ◌++◌, Option, Some, Result, Ok, Err, ⊤, Contains, codes, length, map, nat_eq, slice_get, if◌then◌else◌}
use Rattle.std.specs.List.{starts_with}
use Rattle.std.specs.List.Sorted.{IsStrictlySortedBy}
use Rattle.std.specs.Cmp.Lexicographic.{slice_cmp}
use Rattle.std.specs.Ordering.{nat_cmp}
use Rattle.nextest_config_resolution_profiles.specs.BuiltIn.{built_in_members}
use Rattle.nextest_config_resolution_inheritance.specs.Inheritance.{Name}
use Rattle.nextest_config_resolution_load.specs.Load.{IsFilterBy, IsLoaded, IsSpecBy, merged_of}
use Rattle.nextest_config_resolution_load.specs.declared.load_error.LoadError.{LoadError}
use Rattle.nextest_config_resolution_load.specs.declared.loaded_config.NamedProfile.{NamedProfile}
use Rattle.nextest_config_resolution_settings.specs.Layers.{in_command, in_own}
use Rattle.nextest_config_resolution_settings.specs.Nearest.{IsNearest}
use Rattle.nextest_config_resolution_settings.specs.Rules.{profile_of, rules_of, script_profile_of}
use Rattle.nextest_config_resolution_sources.specs.declared.source.ConfigSource.{ConfigSource}
use Rattle.nextest_config_resolution_keys.specs.File.{Named, default_filter_in}
use Rattle.nextest_config_resolution_keys.specs.declared.profile_config.ProfileConfig.{ProfileConfig}
use Rattle.nextest_config_resolution_keys.specs.Own as own_key
use Rattle.nextest_config_resolution_keys.specs.Command as command_key
use Rattle.nextest_config_resolution_settings.specs.declared.default_filter.CompiledDefaultFilter.{CompiledDefaultFilter}
use Rattle.nextest_config_resolution_settings.specs.declared.default_filter.CompiledDefaultFilterSection.TheVariants as section
use Rattle.nextest_config_resolution_profiles.specs.declared.profile_error.ProfileError.{ProfileError}
use Rattle.nextest_config_resolution_profiles.specs.declared.profile_error.ProfileError.TheVariants as error
use Rattle.nextest_config_resolution_profiles.specs.Early.{Early, in_profile}
pub use Rattle.nextest_config_resolution_profiles.specs.Languages.{IsFilterIn}
pub use Rattle.nextest_config_resolution_profiles.specs.Values.{IsChainOf, values_of}
use Rattle.nextest_config_resolution_profiles.specs.Whole.{Whole}
use Rattle.nextest_config_elements_versions.specs.declared.feature.FeatureSet.{FeatureSet}

-- its profiles, by the bytes of their names, and the names themselves
abbrev pub profiles_of : {F S : Type 0} → Whole F S → List Named
profiles_of config = (merged_of config.loaded).profiles

abbrev pub names_of : {F S : Type 0} → Whole F S → List Name
names_of config = map (λ profile. profile.name) config.loaded.profiles

-- a directory that doesn't stand below a workspace: it begins at the root, or there is no workspace
abbrev pub stands_alone : List ℕ → List ℕ → Bool
stands_alone root dir = starts_with nat_eq dir (codes "/") || length root == 0

-- the directory of a profile's files in a store
abbrev pub dir_in_store : List ℕ → List ℕ → List ℕ → List ℕ
dir_in_store root dir name =
    if stands_alone root dir then dir ++ (codes "/" ++ name) else root ++ (codes "/" ++ (dir ++ (codes "/" ++ name)))

-- the directory of a profile's files, in the store that a configuration sets
abbrev pub IsStoreDir : {F S : Type 0} → Whole F S → Name → List ℕ → Type 0
IsStoreDir config name it = (dir : List ℕ) × (config.loaded.store_dir ≡ Some dir) × (it ≡ dir_in_store config.root dir name)

-- what sources come to over what is built in, in the workspace at a root, where a text is a filter
-- by `Is`, and a platform spec by `IsSpec`, and these features are known
abbrev pub IsConfig : {F S : Type 0} → IsFilterBy F → IsSpecBy S → (List ℕ → Type 0) → FeatureSet → List ℕ → List ConfigSource
    → Result (Whole F S) LoadError → Type 0
IsConfig Is IsSpec IsTooDeep features root sources (Ok config) = (config.root ≡ root) × IsLoaded Is IsSpec IsTooDeep features built_in_members sources (Ok config.loaded)
IsConfig Is IsSpec IsTooDeep features root sources (Err refused) = IsLoaded Is IsSpec IsTooDeep features built_in_members sources (Err refused)

-- the default filter of a chain is that of the nearest profile that sets one, as it was read; it
-- stands at the same place as its profile
pub record IsDefaultFilterOf {F : Type 0} (profiles : List NamedProfile) (filters : List (Option F)) (names : List Name) (chain : List ProfileConfig) (it : CompiledDefaultFilter F) : Type 0 where
  pub place : ℕ
  pub text : List ℕ
  pub nearest : IsNearest (in_command command_key.default_filter_of) chain place text
  pub named : slice_get names place ≡ Some it.profile.now
  pub at : ℕ
  pub from : NamedProfile
  pub stands : slice_get profiles at ≡ Some from
  pub of_name : from.name ≡ it.profile.now
  pub sets : default_filter_in from.config ≡ Some text
  pub read : slice_get filters at ≡ Some (Some it.filter.now)
  pub section : it.section ≡ section.Profile

-- the profile of a name, before anything is known of the platforms
pub record IsEarly {F S : Type 0} (config : Whole F S) (name : Name) (it : Early F S) : Type 0 where
  pub named : it.name ≡ name
  pub stored : IsStoreDir config name it.store_dir
  pub chained : IsChainOf (profiles_of config) name it.chain
  pub filtered : IsDefaultFilterOf config.loaded.profiles config.loaded.default_filters chained.names it.chain it.default_filter
  pub ruled : it.rules ≡ rules_of (in_profile profile_of) config.loaded.rules chained.names
  pub scripted : it.script_rules ≡ rules_of (in_profile script_profile_of) config.loaded.script_rules chained.names
  pub grouped : it.groups ≡ config.loaded.groups
  pub defined : it.scripts ≡ config.loaded.scripts

-- the profile of a name, or that none has it, with the names of all; want of memory says nothing
abbrev pub IsProfile : {F S : Type 0} → Whole F S → Name → Result (Early F S) ProfileError → Type 0
IsProfile config name (Ok it) = IsEarly config name it
IsProfile config name (Err (error.NotFound missing)) = (missing.name ≡ name) × (missing.known ≡ names_of config) × ¬ Contains (names_of config) name
IsProfile config name (Err error.OutOfMemory) = ⊤

-- the names of all profiles, which a refusal gives, rise by their bytes
abbrev pub KnownRise : {E : Type 0} → Result E ProfileError → Type 0
KnownRise (Err (error.NotFound missing)) = IsStrictlySortedBy (slice_cmp nat_cmp) missing.known
KnownRise (Err error.OutOfMemory) = ⊤
KnownRise (Ok it) = ⊤

-- whether a profile of a chain sets the path of the report in JUnit's form
abbrev pub SetsJunit : List ProfileConfig → Type 0
SetsJunit chain = (place : ℕ) × (path : List ℕ) × IsNearest (in_own own_key.junit_path_of) chain place path

-- A configuration sets the directory of its store, and each of its chains sets each key that the
-- built-in `default` has.
use Rattle.std.proofs.Common.{◌≡◌, ℕ, true, List, [], ◌∷◌, ◌++◌, map, codes, Option, None, Some, Ok, is_some, refl, sym, ap, ◌∙◌, subst}
use Rattle.std.proofs.lemmas.Bool.{false≢true}
use Rattle.std.proofs.lemmas.Option.{same_Some}
use Rattle.toml.specs.Data.{Data, Members, as_str, get_member}
use Rattle.nextest_config_elements_deserialize.proofs.Keys.{optional_has}
use Rattle.nextest_config_elements_deserialize.specs.Accepted.{MayHave}
use Rattle.nextest_config_resolution_inheritance.specs.Inheritance.{Name, IsChain, default}
use Rattle.nextest_config_resolution_inheritance.specs.Inheritance.IsChain.{ends, goes_on}
use Rattle.nextest_config_resolution_load.specs.Checks.{config_in, parents_of}
use Rattle.nextest_config_resolution_load.specs.Load.{IsFilterBy, IsLoadedAs, IsSpecBy, merged_of}
use Rattle.nextest_config_resolution_load.specs.declared.loaded_config.LoadedConfig.{LoadedConfig}
use Rattle.nextest_config_resolution_profiles.specs.BuiltIn.{built_in_members}
use Rattle.nextest_config_resolution_profiles.specs.BuiltInLaws.{NoFallback}
use Rattle.nextest_config_resolution_profiles.specs.Config.{IsChainOf, IsConfig, profiles_of, values_of}
use Rattle.nextest_config_resolution_profiles.specs.Laws.{NeverFallsBack, SetsStoreDir}
use Rattle.nextest_config_resolution_profiles.specs.Profiles.{built_in_config, default_profile}
use Rattle.nextest_config_resolution_profiles.specs.Whole.{Whole}
use Rattle.nextest_config_resolution_profiles.proofs.DefaultKept.{Reads, built_in_set, loaded_set, store_read}
use Rattle.nextest_config_resolution_profiles.proofs.Ending.{set_at_end}
use Rattle.nextest_config_resolution_profiles.proofs.OneProfile.{given, given_all}
use Rattle.nextest_config_resolution_settings.specs.Layers.{in_command}
use Rattle.nextest_config_resolution_settings.specs.Nearest.{SetsNone}
use Rattle.nextest_config_resolution_sources.specs.declared.source.ConfigSource.{ConfigSource}
use Rattle.nextest_config_resolution_keys.proofs.Accepting.{profile_parts}
use Rattle.nextest_config_resolution_keys.specs.Command as command_key
use Rattle.nextest_config_resolution_keys.specs.File.{Named, default_filter_in}
use Rattle.nextest_config_resolution_keys.specs.Keys.{Key}
use Rattle.nextest_config_resolution_keys.specs.declared.profile_config.ProfileConfig.{ProfileConfig}
use Rattle.nextest_config_elements_versions.specs.declared.feature.FeatureSet.{FeatureSet}

-- ---- a key that has something is set

one_there : {A : Type 0} (x : Option A) → is_some x ≡ true → (it : A) × (x ≡ Some it)
one_there None e = absurd (false≢true e)
one_there (Some it) e = (it, refl)

have_set : {A : Type 0} (members : Members) (name : List ℕ) (read : Data → Option A) (x : Option A)
    → MayHave members name read x → is_some (get_member name members) ≡ true → is_some x ≡ true
have_set all name read None left_out there = absurd (false≢true (sym (ap is_some left_out) ∙ there))
have_set all name read (Some it) has there = refl

-- ---- a chain with the values of `default` at its end

-- each chain ends with the values of `default`
pub ends_with_default : (profiles : List Named) (value : ProfileConfig) → values_of profiles default ≡ Some value
    → (name : Name) (chain : List ProfileConfig) → IsChainOf profiles name chain → (front : List ProfileConfig) × (chain ≡ front ++ value ∷ [])
ends_with_default profiles value found name chain it =
    let (front, is) = by_names it.in_order in
    (front, sym (given_all chain) ∙ ap given (sym it.valued) ∙ is)
  where
    one_more : (first : Option ProfileConfig) (more : List (Option ProfileConfig)) → (front : List ProfileConfig) × (given more ≡ front ++ value ∷ [])
        → (front : List ProfileConfig) × (given (first ∷ more) ≡ front ++ value ∷ [])
    one_more None more it = it
    one_more (Some first) more (front, is) = (first ∷ front, ap (λ (more : List ProfileConfig). first ∷ more) is)

    by_names : {name : Name} {names : List Name} → IsChain (parents_of profiles) name names
        → (front : List ProfileConfig) × (given (map (values_of profiles) names) ≡ front ++ value ∷ [])
    by_names (ends {name = name} is) = ([], ap (λ (found : Option ProfileConfig). given (found ∷ [])) (ap (values_of profiles) is ∙ found))
    by_names (goes_on {name = name} {chain = names} apart more) = one_more (values_of profiles name) (map (values_of profiles) names) (by_names more)

-- so that each sets what `default` sets
chain_sets : {V : Type 0} (set_by : ProfileConfig → Option V) (profiles : List Named) (value : ProfileConfig) → values_of profiles default ≡ Some value → is_some (set_by value) ≡ true
    → (name : Name) (chain : List ProfileConfig) → IsChainOf profiles name chain → ¬ SetsNone set_by chain
chain_sets set_by profiles value found sets name chain it unset =
    let (front, is) = ends_with_default profiles value found name chain it in
    set_at_end set_by front value sets (subst (SetsNone set_by) is unset)

pub chain_sets_filter : (profiles : List Named) (value : ProfileConfig) (text : List ℕ) → values_of profiles default ≡ Some value → default_filter_in value ≡ Some text
    → (name : Name) (chain : List ProfileConfig) → IsChainOf profiles name chain → ¬ SetsNone (in_command command_key.default_filter_of) chain
chain_sets_filter profiles value text found sets = chain_sets (in_command command_key.default_filter_of) profiles value found (ap is_some sets)

-- ---- configurations

filter_reads : Reads command_key.default_filter (in_command command_key.default_filter_of)
filter_reads given it is = (profile_parts given it is).command.default_filter

-- `default` has values, and sets a default filter
pub default_sets : {F S : Type 0} (Is : IsFilterBy F) (IsSpec : IsSpecBy S) (features : FeatureSet) (sources : List ConfigSource) (loaded : LoadedConfig F S) → IsLoadedAs Is IsSpec features built_in_members sources loaded
    → (value : ProfileConfig) × (values_of (merged_of loaded).profiles default ≡ Some value) × ((text : List ℕ) × (default_filter_in value ≡ Some text))
default_sets Is IsSpec features sources loaded it =
    let (value, found, sets) = loaded_set command_key.default_filter (in_command command_key.default_filter_of) filter_reads Is IsSpec features sources loaded it refl in
    (value, found, one_there (default_filter_in value) sets)

-- the directory of the store is set
pub store_sets : {F S : Type 0} (Is : IsFilterBy F) (IsSpec : IsSpecBy S) (features : FeatureSet) (sources : List ConfigSource) (loaded : LoadedConfig F S) → IsLoadedAs Is IsSpec features built_in_members sources loaded
    → (dir : List ℕ) × (loaded.store_dir ≡ Some dir)
store_sets Is IsSpec features sources loaded it =
    let (store, read, has) = store_read Is IsSpec features sources loaded it in
    let name : List ℕ = codes "dir" in
    let may = optional_has name as_str store loaded.store_dir read in
    one_there loaded.store_dir (have_set store name as_str loaded.store_dir may has)

pub sets_store_dir : {F S : Type 0} (Is : IsFilterBy F) (IsSpec : IsSpecBy S) (IsTooDeep : List ℕ → Type 0) → SetsStoreDir Is IsSpec IsTooDeep
sets_store_dir Is IsSpec IsTooDeep features root sources config loaded = store_sets Is IsSpec features sources config.loaded loaded.1

pub never_falls_back : {F S V : Type 0} (key : Key V) (set_by : ProfileConfig → Option V) → Reads key set_by → (Is : IsFilterBy F) (IsSpec : IsSpecBy S) (IsTooDeep : List ℕ → Type 0)
    → NeverFallsBack Is IsSpec IsTooDeep key set_by
never_falls_back key set_by reads Is IsSpec IsTooDeep features root sources config loaded has =
    let (value, found, sets) = loaded_set key set_by reads Is IsSpec features sources config.loaded loaded.1 has in
    chain_sets set_by (merged_of config.loaded).profiles value found sets

-- each chain sets a default filter
pub some_filter : {F S : Type 0} (Is : IsFilterBy F) (IsSpec : IsSpecBy S) (IsTooDeep : List ℕ → Type 0) (features : FeatureSet) (root : List ℕ) (sources : List ConfigSource)
    (config : Whole F S) → IsConfig Is IsSpec IsTooDeep features root sources (Ok config) → (name : Name) (chain : List ProfileConfig) → IsChainOf (profiles_of config) name chain
    → ¬ SetsNone (in_command command_key.default_filter_of) chain
some_filter Is IsSpec IsTooDeep features root sources config loaded =
    never_falls_back command_key.default_filter (in_command command_key.default_filter_of) filter_reads Is IsSpec IsTooDeep features root sources config loaded refl

-- ---- what is built in alone

pub no_fallback : {V : Type 0} (key : Key V) (set_by : ProfileConfig → Option V) → Reads key set_by → config_in built_in_members ≡ Ok built_in_config → NoFallback key set_by
no_fallback key set_by reads read has front =
    let (value, found, sets) = built_in_set key set_by reads has built_in_config read in
    let same : default_profile ≡ value = same_Some default_profile value found in
    set_at_end set_by front default_profile (ap (λ it. is_some (set_by it)) same ∙ sets)

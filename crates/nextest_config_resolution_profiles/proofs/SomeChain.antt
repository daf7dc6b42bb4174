-- A name has a chain in a configuration, or none of its profiles has the name.
use Rattle.std.proofs.Common.{◌≡◌, ℕ, List, [], ◌∷◌, Bool, true, false, cond, Option, None, Some, Ok, option_and_then, find, refl, sym, ap, ◌∙◌, subst, ◌⊎◌, inl, inr, arith, is_some}
use Rattle.std.proofs.lemmas.Bool.{false≢true}
use Rattle.std.proofs.lemmas.List.Elements.{All-cons, All-nil, All-tail}
use Rattle.std.specs.List.{All, Contains}
use Rattle.std.specs.Option.{unwrap_or}
use Rattle.std.specs.Str.{bytes_eq}
use Rattle.toml.specs.Data.{table}
use Rattle.nextest_config_resolution_profiles.specs.BuiltIn.{built_in_members, default_members, profiles_members}
use Rattle.nextest_config_resolution_inheritance.specs.Inheritance.{Name, Parents, Profile, IsAccepted, IsChain, IsOneOf, KnowsParent, default, names, next}
use Rattle.nextest_config_resolution_inheritance.specs.Inheritance.IsChain.{ends, goes_on}
use Rattle.nextest_config_resolution_inheritance.proofs.Chains.{one_chain}
use Rattle.nextest_config_resolution_load.specs.Checks.{parents_of}
use Rattle.nextest_config_resolution_load.specs.Load.{IsFilterBy, IsLoaded, IsSpecBy, merged_of}
use Rattle.nextest_config_resolution_load.specs.declared.loaded_config.LoadedConfig.{LoadedConfig}
use Rattle.nextest_config_resolution_load.proofs.Kept.{kept_inherits}
use Rattle.nextest_config_resolution_profiles.specs.Config.{IsChainOf, names_of, profiles_of, values_of}
use Rattle.nextest_config_resolution_profiles.specs.Kept.{HasProfile}
use Rattle.nextest_config_resolution_profiles.specs.Laws.{SomeChain}
use Rattle.nextest_config_resolution_profiles.proofs.Kept.{kept_profile}
use Rattle.nextest_config_resolution_profiles.proofs.Found.{name_there, profile_there, value_there, values_there}
use Rattle.nextest_config_resolution_profiles.proofs.Names.{names_are}
use Rattle.nextest_config_resolution_sources.specs.declared.source.ConfigSource.{ConfigSource}
use Rattle.nextest_config_resolution_keys.specs.File.{Named}
use Rattle.nextest_config_resolution_keys.specs.declared.profile_config.ProfileConfig.{ProfileConfig}
use Rattle.nextest_config_elements_versions.specs.declared.feature.FeatureSet.{FeatureSet}

-- ---- the names of a chain

-- the next name is one of the profiles, where `default` is
next_known : (all some : Parents) (name : Name) → All (KnowsParent all) some → Contains (names all) default → Contains (names all) (next some name)
next_known all [] name known has = has
next_known all (profile ∷ some) name known has = by_test (bytes_eq name profile.0) (next_known all some name (All-tail (KnowsParent all) profile some known) has)
  where
    parent_known : (parent : Option Name) → IsOneOf all parent → Contains (names all) (unwrap_or parent default)
    parent_known None nothing = has
    parent_known (Some parent) there = there

    by_test : (same : Bool) → Contains (names all) (next some name)
        → Contains (names all) (unwrap_or (option_and_then (λ (it : Profile). it.1) (cond same (Some profile) (find (λ (it : Profile). bytes_eq name it.0) some))) default)
    by_test true behind = parent_known profile.1 (known 0 profile (omega arith))
    by_test false behind = behind

-- each name of a chain is one of the profiles
pub chain_known : (all : Parents) {name : Name} {chain : List Name} → All (KnowsParent all) all → Contains (names all) default → Contains (names all) name → IsChain all name chain
    → All (Contains (names all)) chain
chain_known all known has there (ends {name = name} is) = All-cons (Contains (names all)) name [] there (All-nil (Contains (names all)))
chain_known all known has there (goes_on {name = name} {chain = chain} apart more) =
    All-cons (Contains (names all)) name chain there (chain_known all known has (next_known all all name known has) more)

-- ---- a chain of values

-- a profile of accepted profiles has one, where `default` is one of them
pub chain_there : (profiles : List Named) (name : Name) → IsAccepted (parents_of profiles) → Contains (names (parents_of profiles)) default
    → Contains (names (parents_of profiles)) name → (values : List ProfileConfig) × IsChainOf profiles name values
chain_there profiles name accepted has there =
    let all = parents_of profiles in
    let profile = profile_there all name there in
    let chain = one_chain all profile.0 accepted profile.1 in
    let in_order : IsChain all name chain.0 = subst (λ (n : Name). IsChain all n chain.0) profile.2 chain.1 in
    let given = values_there profiles chain.0 (chain_known all accepted.known has there in_order) in
    (given.0, record { names = chain.0; in_order = in_order; valued = given.1 })

-- ---- the whole

built_in_has : HasProfile default built_in_members
built_in_has = record { profiles = profiles_members; given = table default_members; listed = refl; there = refl }

-- `default` is a profile of every configuration
pub default_there : {F S : Type 0} (Is : IsFilterBy F) (IsSpec : IsSpecBy S) (IsTooDeep : List ℕ → Type 0) (features : FeatureSet) (sources : List ConfigSource) (config : LoadedConfig F S)
    → IsLoaded Is IsSpec IsTooDeep features built_in_members sources (Ok config) → Contains (names (parents_of (merged_of config).profiles)) default
default_there Is IsSpec IsTooDeep features sources config loaded = kept_profile Is IsSpec IsTooDeep features built_in_members sources config default built_in_has loaded

pub some_chain : {F S : Type 0} (Is : IsFilterBy F) (IsSpec : IsSpecBy S) (IsTooDeep : List ℕ → Type 0) → SomeChain Is IsSpec IsTooDeep
some_chain {F} {S} Is IsSpec IsTooDeep features root sources config name loaded = by_value (values_of (profiles_of config) name) refl
  where
    accepted : IsAccepted (parents_of (profiles_of config))
    accepted = kept_inherits Is IsSpec features built_in_members sources (merged_of config.loaded) loaded.1.kept loaded.1.values

    by_value : (found : Option ProfileConfig) → values_of (profiles_of config) name ≡ found
        → ((values : List ProfileConfig) × IsChainOf (profiles_of config) name values) ⊎ ¬ Contains (names_of config) name
    by_value (Some value) e =
        inl (chain_there (profiles_of config) name accepted (default_there Is IsSpec IsTooDeep features sources config.loaded loaded.1) (name_there name (profiles_of config) value e))
    by_value None e = inr (λ has.
        let there = subst (λ (all : List Name). Contains all name) (sym (names_are config.loaded.profiles)) has in
        false≢true (ap is_some (sym e ∙ (value_there name (profiles_of config) there).1)))

-- The values of profiles by their places.
use Rattle.std.specs.Prelude.{◌≡◌, ℕ, List, Option, All, Contains, Some, map, option_map, slice_get}
use Rattle.nextest_config_resolution_inheritance.specs.Inheritance.{Name, names_at}
use Rattle.nextest_config_resolution_load.specs.Checks.{parents_of}
use Rattle.nextest_config_resolution_load.specs.Load.{named_of}
use Rattle.nextest_config_resolution_load.specs.declared.loaded_config.NamedProfile.{NamedProfile}
use Rattle.nextest_config_resolution_load.specs.Load.{LoadedOverride, LoadedScriptRule}
use Rattle.nextest_config_resolution_settings.specs.Nearest.{lent_layers}
use Rattle.nextest_config_resolution_settings.specs.Rules.{profile_of, rules_of, script_profile_of}
use Rattle.nextest_config_resolution_keys.specs.File.{Named}
use Rattle.nextest_config_resolution_keys.specs.declared.profile_config.ProfileConfig.{ProfileConfig}
use Rattle.nextest_config_resolution_profiles.specs.ChainRules.{rules_in}
use Rattle.nextest_config_resolution_profiles.specs.Config.{IsChainOf, IsDefaultFilterOf}
use Rattle.nextest_config_resolution_profiles.specs.Early.{in_profile}
use Rattle.nextest_config_resolution_profiles.specs.declared.chains.Chained.{Chained}

-- the values of the profiles at some places
pub record AreAt (profiles : List Named) (places : List ℕ) (values : List ProfileConfig) : Type 0 where
  pub chain : List Named
  pub each : All (Contains profiles) chain
  pub placed : map (λ profile. profile.0) chain ≡ names_at (parents_of profiles) places
  pub valued : values ≡ map (λ profile. profile.1) chain
  pub stand : map Some values ≡ map (λ place. option_map (λ profile. profile.1) (slice_get profiles place)) places

-- the chain of the profile of a name, its default filter, and its rules
pub record IsChained {F S : Type 0} (profiles : List NamedProfile) (filters : List (Option F)) (all : List (LoadedOverride F S))
    (scripts : List (LoadedScriptRule F S)) (name : Name) (it : Chained F S) : Type 0 where
  pub chained : IsChainOf (map named_of profiles) name (lent_layers it.values.items)
  pub filtered : IsDefaultFilterOf profiles filters chained.names (lent_layers it.values.items) it.default_filter
  pub ruled : rules_in it.rules.items ≡ rules_of (in_profile profile_of) all chained.names
  pub scripted : rules_in it.script_rules.items ≡ rules_of (in_profile script_profile_of) scripts chained.names

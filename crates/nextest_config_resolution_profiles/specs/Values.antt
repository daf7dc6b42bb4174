-- The values of profiles by their names, and those of a chain.
use Rattle.std.specs.Prelude.{◌≡◌, ℕ, List, Option, Some, find, map, option_map}
use Rattle.std.specs.Str.{bytes_eq}
use Rattle.nextest_config_resolution_inheritance.specs.Inheritance.{Name, IsChain, default}
use Rattle.nextest_config_resolution_load.specs.Checks.{parents_of}
use Rattle.nextest_config_resolution_keys.specs.File.{Named, default_filter_in}
use Rattle.nextest_config_resolution_keys.specs.declared.profile_config.ProfileConfig.{ProfileConfig}

-- the values of the profile of a name
abbrev pub values_of : List Named → Name → Option ProfileConfig
values_of profiles name = option_map (λ profile. profile.1) (find (λ profile. bytes_eq name profile.0) profiles)

-- the values of the profiles of which the names are the chain of a name
pub record IsChainOf (profiles : List Named) (name : Name) (values : List ProfileConfig) : Type 0 where
  pub names : List Name
  pub in_order : IsChain (parents_of profiles) name names
  pub valued : map (values_of profiles) names ≡ map Some values

-- the profile `default` sets a default filter
pub record SetsFilter (profiles : List Named) : Type 0 where
  pub values : ProfileConfig
  pub text : List ℕ
  pub there : values_of profiles default ≡ Some values
  pub sets : default_filter_in values ≡ Some text

-- Profiles that stay, whatever files say.
use Rattle.std.specs.Prelude.{◌≡◌, ℕ, List, Some, Ok, Contains, codes}
use Rattle.toml.specs.Data.{Data, table, Members, get_member}
use Rattle.nextest_config_resolution_inheritance.specs.Inheritance.{names}
use Rattle.nextest_config_resolution_load.specs.Checks.{parents_of}
use Rattle.nextest_config_resolution_load.specs.Load.{IsFilterBy, IsLoaded, IsSpecBy, merged_of}
use Rattle.nextest_config_resolution_load.specs.declared.loaded_config.LoadedConfig.{LoadedConfig}
use Rattle.nextest_config_resolution_sources.specs.declared.source.ConfigSource.{ConfigSource}
use Rattle.nextest_config_elements_versions.specs.declared.feature.FeatureSet.{FeatureSet}

-- something stands under a name in the table of profiles
pub record HasProfile (name : List ℕ) (top : Members) : Type 0 where
  pub profiles : Members
  pub given : Data
  pub listed : get_member (codes "profile") top ≡ Some (table profiles)
  pub there : get_member name profiles ≡ Some given

-- a profile of what is built in is one of each configuration that sources come to over it
abbrev pub KeptProfile : {F S : Type 0} → IsFilterBy F → IsSpecBy S → (List ℕ → Type 0) → Type 0
KeptProfile {F} {S} Is IsSpec IsTooDeep = (features : FeatureSet) (built_in : Members) (sources : List ConfigSource) (config : LoadedConfig F S) (name : List ℕ)
    → HasProfile name built_in → IsLoaded Is IsSpec IsTooDeep features built_in sources (Ok config) → Contains (names (parents_of (merged_of config).profiles)) name

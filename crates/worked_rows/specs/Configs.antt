-- What is asked of configurations.
use Rattle.std.specs.Prelude.{◌≡◌, ◌⊎◌, ℕ, Bool, List, [], Option, None, Some, Ok, Err, Contains}
use Rattle.nextest_config_elements_values.specs.declared.retries.RetryPolicy.{RetryPolicy}
use Rattle.nextest_config_elements_choices.specs.declared.run_mode.NextestRunMode.TheVariants as mode
use Rattle.nextest_config_elements_versions.specs.declared.feature.FeatureSet.{FeatureSet}
use Rattle.nextest_config_resolution_load.specs.Load.{IsFilterBy, IsSpecBy}
use Rattle.nextest_config_resolution_load.specs.declared.load_error.LoadError.TheVariants.{Refused}
use Rattle.nextest_config_resolution_load.specs.declared.load_fault.LoadFault.{LoadFault}
use Rattle.nextest_config_resolution_profiles.specs.Config.{IsConfig, IsEarly, names_of}
use Rattle.nextest_config_resolution_profiles.specs.Early.{Early}
use Rattle.nextest_config_resolution_profiles.specs.Evaluatable.{Evaluatable, IsPutOn}
use Rattle.nextest_config_resolution_profiles.specs.Held.{AreSettingsFor}
use Rattle.nextest_config_resolution_profiles.specs.Platforms.{built_for, built_on}
use Rattle.nextest_config_resolution_profiles.specs.Whole.{Whole}
use Rattle.nextest_config_resolution_profiles.specs.declared.platforms.BuildPlatforms.{BuildPlatforms}
use Rattle.nextest_config_resolution_settings.specs.Nearest.{Source, an_override, a_script_rule, a_profile, no_layer, setting_source_of}
use Rattle.nextest_config_resolution_settings.specs.Tracking.{TellsAll}
use Rattle.nextest_config_resolution_settings.specs.declared.source.SettingSource.{SettingSource}
use Rattle.nextest_config_resolution_settings.specs.declared.test_settings.TestSettings.{TestSettings}
use Rattle.nextest_config_resolution_sources.specs.declared.source.ConfigSource.{ConfigSource}
use Rattle.nextest_filtering_filters.specs.Query.{Test}

-- the place in its chain of the profile that a setting comes from
abbrev pub place_of : Source → Option ℕ
place_of (a_profile place) = Some place
place_of (an_override id) = None
place_of (a_script_rule id) = None
place_of no_layer = None

-- how a test is tried again by a profile on platforms, and which profile of its chain sets that, if
-- one does. A text is a filter by `Is`, and a platform spec by `IsSpec`; a spec is asked by
-- `value_on`, and a filter by `OnTest`; and these features are known
pub record AreRetriesBy {F S Facts : Type 0} (Is : IsFilterBy F) (IsSpec : IsSpecBy S) (IsTooDeep : List ℕ → Type 0) (value_on : S → Facts → Option Bool)
    (OnTest : F → F → Test → Bool → Type 0) (features : FeatureSet) (sources : List ConfigSource) (name : List ℕ) (platforms : BuildPlatforms Facts) (test : Test) (it : RetryPolicy × Option ℕ) : Type 0 where
  pub config : Whole F S
  pub loaded : IsConfig Is IsSpec IsTooDeep features [] sources (Ok config)
  pub early : Early F S
  pub found : IsEarly config name early
  pub profile : Evaluatable F S
  pub put_on : IsPutOn value_on (built_on platforms) (built_for platforms) early profile
  pub settings : TestSettings SettingSource
  pub are : AreSettingsFor OnTest TellsAll profile mode.Test test settings
  pub retries : it ≡ (settings.retries.0, place_of (setting_source_of settings.retries.1))

-- no profile of what the sources come to has a name
pub record HasNoProfile {F S : Type 0} (Is : IsFilterBy F) (IsSpec : IsSpecBy S) (IsTooDeep : List ℕ → Type 0) (features : FeatureSet) (sources : List ConfigSource) (name : List ℕ) : Type 0 where
  pub config : Whole F S
  pub loaded : IsConfig Is IsSpec IsTooDeep features [] sources (Ok config)
  pub unknown : ¬ Contains (names_of config) name

-- what there is to tell of it: nothing where the sources are refused, or no profile has the name
abbrev pub AreRetriesOf : {F S Facts : Type 0} → IsFilterBy F → IsSpecBy S → (List ℕ → Type 0) → (S → Facts → Option Bool) → (F → F → Test → Bool → Type 0)
    → FeatureSet → List ConfigSource → List ℕ → BuildPlatforms Facts → Test → Option (RetryPolicy × Option ℕ) → Type 0
AreRetriesOf Is IsSpec IsTooDeep value_on OnTest features sources name platforms test None =
    ((fault : LoadFault) × IsConfig Is IsSpec IsTooDeep features [] sources (Err (Refused fault))) ⊎ HasNoProfile Is IsSpec IsTooDeep features sources name
AreRetriesOf Is IsSpec IsTooDeep value_on OnTest features sources name platforms test (Some it) =
    AreRetriesBy Is IsSpec IsTooDeep value_on OnTest features sources name platforms test it

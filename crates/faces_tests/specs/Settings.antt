-- How a test is tried again by a profile of a configuration.
use Rattle.std.specs.Prelude.{◌≡◌, ℕ, Bool, List, Option}
use Rattle.nextest_config_resolution.specs.RetryPolicy.{RetryPolicy}
use Rattle.nextest_config_resolution.specs.BuildPlatforms.{BuildPlatforms}
use Rattle.nextest_config_resolution.specs.Config.{IsEarly}
use Rattle.nextest_config_resolution.specs.Early.{Early}
use Rattle.nextest_config_resolution.specs.Evaluatable.{Evaluatable, IsPutOn}
use Rattle.nextest_config_resolution.specs.Held.{AreSettingsFor}
use Rattle.nextest_config_resolution.specs.NextestRunMode.TheVariants as mode
use Rattle.nextest_config_resolution.specs.Platforms.{built_for, built_on}
use Rattle.nextest_config_resolution.specs.Query.{Test}
use Rattle.nextest_config_resolution.specs.SettingSource.{SettingSource}
use Rattle.nextest_config_resolution.specs.TestSettingsType.{TestSettings}
use Rattle.nextest_config_resolution.specs.Tracking.{TellsAll}
use Rattle.nextest_config_resolution.specs.WholeConfig.{Whole}

-- the profile of this name, on these platforms, has settings for a test, and they have it tried
-- again so
pub record IsRetriedBy {F S Facts : Type 0} (value_on : S → Facts → Option Bool) (OnTest : F → F → Test → Bool → Type 0)
    (config : Whole F S) (name : List ℕ) (platforms : BuildPlatforms Facts) (test : Test) (it : RetryPolicy) : Type 0 where
  pub early : Early F S
  pub named : IsEarly config name early
  pub profile : Evaluatable F S
  pub put : IsPutOn value_on (built_on platforms) (built_for platforms) early profile
  pub settings : TestSettings SettingSource
  pub are : AreSettingsFor OnTest TellsAll profile mode.Test test settings
  pub same : it ≡ settings.retries.0

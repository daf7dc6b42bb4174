-- The settings that a profile has for tests, as a plan keeps them.
use Rattle.std.specs.Prelude.{◌≡◌, ℕ, ◌+◌, Bool, List, IfSome, length}
use Rattle.std.specs.Ordering.{nat_cmp}
use Rattle.std.specs.BTreeMap.{BTreeMap, get}
use Rattle.nextest_config_elements_choices.specs.declared.run_mode.NextestRunMode.{NextestRunMode}
use Rattle.nextest_config_resolution_profiles.specs.Evaluatable.{Evaluatable}
use Rattle.nextest_config_resolution_profiles.specs.Held.{AreSettingsFor}
use Rattle.nextest_config_resolution_profiles.specs.HeldRules.{IsHeldRow, row_number}
use Rattle.nextest_config_resolution_settings.specs.Tracking.{TellsNothing}
use Rattle.nextest_config_resolution_settings.specs.declared.test_settings.TestSettings.{TestSettings}
use Rattle.nextest_filtering_compiling.specs.Filtersets.{HasOnTest}
use Rattle.nextest_filtering_compiling.specs.declared.filterset.Filterset.{Filterset}
use Rattle.nextest_filtering_filters.specs.Query.{Test}
use Rattle.test_runner_core_plan.specs.declared.plan_settings.PlanSettings.{PlanSettings}
use Rattle.test_runner_core_planning.specs.declared.settled_tests.RowSettings.{RowSettings}
use Rattle.test_runner_core_platforms.specs.declared.platform_spec.PlatformSpec.{PlatformSpec}
use Rattle.test_runner_core_settings.specs.Settings.{owned_of}

-- these are the settings that a profile has for a test
abbrev pub HasSettings : Evaluatable Filterset PlatformSpec → NextestRunMode → Test → PlanSettings → Type 0
HasSettings profile mode test it = (lent : TestSettings (Unit {0})) × AreSettingsFor HasOnTest TellsNothing profile mode test lent × (it ≡ owned_of lent)

-- and these for each test
abbrev pub HasForEach : Evaluatable Filterset PlatformSpec → NextestRunMode → (Test → PlanSettings) → Type 0
HasForEach profile mode of_test = (test : Test) (it : PlanSettings) → HasSettings profile mode test it → it ≡ of_test test

-- and these for each test on which just the rules of a row hold
abbrev pub HasForRow : Evaluatable Filterset PlatformSpec → NextestRunMode → List Bool → PlanSettings → Type 0
HasForRow profile mode row it = (test : Test) → IsHeldRow HasOnTest profile test row → HasSettings profile mode test it

-- what is shared under a number are settings for every test of a row, which has this number and a value for each rule
pub record IsShared (profile : Evaluatable Filterset PlatformSpec) (mode : NextestRunMode) (number : ℕ) (it : RowSettings) : Type 0 where
  pub has : HasForRow profile mode it.row.items it.settings
  pub counted : length it.row.items ≡ length profile.rules + length profile.script_rules
  pub numbered : number ≡ row_number it.row.items

abbrev pub AreShared : Evaluatable Filterset PlatformSpec → NextestRunMode → BTreeMap ℕ RowSettings → Type 0
AreShared profile mode shared = (number : ℕ) → IfSome (get nat_cmp shared number) (IsShared profile mode number)

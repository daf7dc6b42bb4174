-- What calls of this crate give; want of memory says nothing.
use Rattle.std.specs.Prelude.{◌≡◌, ◌↔◌, ℕ, true, false, List, Option, option_map, Result, Ok, Err, ⊤}
use Rattle.nextest_config_resolution_load.specs.declared.load_error.LoadError.{LoadError}
use Rattle.nextest_config_resolution_load.specs.declared.load_error.LoadError.TheVariants as load
use Rattle.nextest_config_resolution_profiles.specs.declared.profile_error.ProfileError.{ProfileError}
use Rattle.nextest_config_resolution_profiles.specs.declared.profile_error.ProfileError.TheVariants as profile
use Rattle.std.specs.Option.{option_map_or}
use Rattle.nextest_config_elements_identifiers.specs.declared.test_group.TestGroup.{TestGroup}
use Rattle.nextest_config_resolution_profiles.specs.Enabled as enabled_by
use Rattle.nextest_config_resolution_profiles.specs.Evaluatable.{Evaluatable}
use Rattle.nextest_config_resolution_profiles.specs.Held.{AreSettingsFor, IsGroupFor}
use Rattle.nextest_config_resolution_settings.specs.Tracking.{TellsNothing}
use Rattle.nextest_config_resolution_settings.specs.declared.test_settings.TestSettings.{TestSettings}
use Rattle.nextest_filtering_compiling.specs.Context.{Context}
use Rattle.nextest_filtering_compiling.specs.Filtersets.{HasOnTest}
use Rattle.nextest_filtering_compiling.specs.declared.filterset.Filterset.{Filterset}
use Rattle.nextest_filtering_filters.specs.Query.{Test}
use Rattle.test_runner_core_plan.specs.declared.plan_settings.PlanSettings.{PlanSettings}
use Rattle.test_runner_core_platforms.specs.Facts.{Facts}
use Rattle.test_runner_core_platforms.specs.declared.fact.PlatformFactsError.{PlatformFactsError}
use Rattle.test_runner_core_platforms.specs.declared.fact.PlatformFactsError.TheVariants as facts_error
use Rattle.test_runner_core_settings.specs.Platforms.{facts_of, repeats}
use Rattle.test_runner_core_inputs.specs.declared.platform.PlatformRecord.{PlatformRecord}
use Rattle.test_runner_core_platforms.specs.declared.platform_spec.PlatformSpec.{PlatformSpec}
use Rattle.test_runner_core_settings.specs.Settings.{owned_of}
use Rattle.test_runner_core_inputs.specs.declared.inputs.Inputs.{Inputs}
use Rattle.test_runner_core_settings.specs.Sets.{IsDefault, IsEnabled, IsGroupOf, Reads, Sets, SetsTest, key_warnings}
use Rattle.test_runner_core_settings.specs.declared.configured.ChosenRun.{ChosenRun}
use Rattle.test_runner_core_settings.specs.declared.configured.ConfiguredRun.{ConfiguredRun}
use Rattle.test_runner_core_settings.specs.declared.settings_error.SettingsError.{SettingsError}
use Rattle.test_runner_core_settings.specs.declared.settings_error.SettingsError.TheVariants as error
use Rattle.test_runner_core_settings.specs.declared.settings_fault.SettingsFault.TheVariants as fault

-- the errors of parts, as those of the whole
abbrev pub error_of_load : LoadError → SettingsError
error_of_load (load.Refused refusal) = error.Refused (fault.Load refusal)
error_of_load load.OutOfMemory = error.OutOfMemory

abbrev pub error_of_profile : ProfileError → SettingsError
error_of_profile (profile.NotFound missing) = error.Refused (fault.ProfileNotFound missing)
error_of_profile profile.OutOfMemory = error.OutOfMemory

abbrev pub error_of_facts : PlatformFactsError → SettingsError
error_of_facts facts_error.RepeatedFact = error.Refused fault.RepeatedFact
error_of_facts facts_error.OutOfMemory = error.OutOfMemory

-- a call gives what is known of a platform, or refuses it since two facts repeat; want of memory
-- says nothing
abbrev pub KnowsPlatform : PlatformRecord → Result Facts PlatformFactsError → Type 0
KnowsPlatform platform (Ok it) = (it ≡ facts_of platform) × (repeats platform ≡ false)
KnowsPlatform platform (Err facts_error.RepeatedFact) = repeats platform ≡ true
KnowsPlatform platform (Err facts_error.OutOfMemory) = ⊤

-- the same of one that may be handed in
abbrev pub KnowsTarget : Option PlatformRecord → Result (Option Facts) PlatformFactsError → Type 0
KnowsTarget target (Ok it) = (it ≡ option_map facts_of target) × (option_map_or repeats target false ≡ false)
KnowsTarget target (Err facts_error.RepeatedFact) = option_map_or repeats target false ≡ true
KnowsTarget target (Err facts_error.OutOfMemory) = ⊤

-- a call gives the configuration of inputs, with what is told of their files, or refuses it
abbrev pub Configures : Context → Inputs → Result ConfiguredRun SettingsError → Type 0
Configures cx inputs (Ok it) = Reads cx inputs it.config × (it.warnings ≡ key_warnings inputs)
Configures cx inputs (Err (error.Refused refusal)) = Sets cx inputs (Err refusal)
Configures cx inputs (Err error.OutOfMemory) = ⊤

-- what a profile answers of tests is what the inputs set for them, and it answers something of each
pub record AnswersTests (cx : Context) (inputs : Inputs) (profile : Evaluatable Filterset PlatformSpec) : Type 0 where
  pub settings : (test : Test) (it : TestSettings (Unit {0})) → AreSettingsFor HasOnTest TellsNothing profile inputs.mode test it → SetsTest cx inputs test (owned_of it)
  pub group : (test : Test) (it : TestGroup) → IsGroupFor HasOnTest profile test it → IsGroupOf cx inputs test it
  pub some : (test : Test) → (it : PlanSettings) × SetsTest cx inputs test it
  pub some_group : (test : Test) → (it : TestGroup) × IsGroupFor HasOnTest profile test it
  pub enabled : (tests : List Test) (id : List ℕ) → enabled_by.IsEnabled HasOnTest profile tests id ↔ IsEnabled cx inputs tests id

-- a call gives what the chosen profile sets, and the profile, with the default filter of that text,
-- or refuses the inputs
pub record ChoosesRun (cx : Context) (inputs : Inputs) (it : ChosenRun) : Type 0 where
  pub sets : Sets cx inputs (Ok it.settings)
  pub default : IsDefault cx it.settings.default_filter it.profile.default_filter.filter.now
  pub answers : AnswersTests cx inputs it.profile

abbrev pub Chooses : Context → Inputs → Result ChosenRun SettingsError → Type 0
Chooses cx inputs (Ok it) = ChoosesRun cx inputs it
Chooses cx inputs (Err (error.Refused refusal)) = Sets cx inputs (Err refusal)
Chooses cx inputs (Err error.OutOfMemory) = ⊤

-- What the laws say.
use Rattle.std.specs.Prelude.{◌≡◌, ◌↔◌, ◌<◌, ℕ, true, is_some, List, All, Contains, Result, Ok, Err, ⊤}
use Rattle.nextest_config_elements_choices.specs.declared.max_fail.MaxFail.{MaxFail}
use Rattle.nextest_config_elements_choices.specs.declared.max_fail.MaxFail.TheVariants as limits
use Rattle.nextest_config_elements_versions.specs.Sources.{Asking, Comes, Refusal, askings}
use Rattle.nextest_config_elements_versions.specs.declared.version_only.VersionOnlyConfig.{VersionOnlyConfig}
use Rattle.nextest_config_resolution_inheritance.specs.Inheritance.{IsChain, Name}
use Rattle.nextest_config_resolution_load.specs.Kinds.{kind_of}
use Rattle.nextest_config_resolution_load.specs.Checks.{parents_of}
use Rattle.nextest_config_resolution_profiles.specs.Agreeing.{SourcesAgree}
use Rattle.nextest_config_resolution_profiles.specs.Config.{profiles_of, values_of}
use Rattle.nextest_config_resolution_profiles.specs.Whole.{Whole}
use Rattle.nextest_config_resolution_scripts.specs.Defined.{script_named}
use Rattle.nextest_filtering_compiling.specs.Context.{Context}
use Rattle.nextest_filtering_compiling.specs.declared.filterset.Filterset.{Filterset}
use Rattle.nextest_filtering_filters.specs.Query.{Test}
use Rattle.test_runner_core_inputs.specs.declared.inputs.Inputs.{Inputs}
use Rattle.test_runner_core_platforms.specs.declared.platform_spec.PlatformSpec.{PlatformSpec}
use Rattle.test_runner_core_plan.specs.declared.plan_settings.PlanSettings.{PlanSettings}
use Rattle.test_runner_core_settings.specs.Pass.{pass_of, pass_of_config}
use Rattle.test_runner_core_settings.specs.Sources.{sources_of}
use Rattle.test_runner_core_settings.specs.declared.pass_error.VersionPassFault.TheVariants as pass_fault
use Rattle.test_runner_core_settings.specs.Sets.{IsEnabled, Reads, Sets, SetsTest, groups_in, rules_in, script_rules_in}
use Rattle.test_runner_core_settings.specs.declared.configured.RunSettings.{RunSettings}
use Rattle.test_runner_core_settings.specs.declared.settings_fault.SettingsFault.{SettingsFault}
use Rattle.test_runner_core_settings.specs.declared.settings_fault.SettingsFault.TheVariants as fault

-- two faults have one reason: the same rule of the load is broken, or they are the same
abbrev pub HaveOneReason : SettingsFault → SettingsFault → Type 0
HaveOneReason (fault.Load one) (fault.Load other) = kind_of one ≡ kind_of other
HaveOneReason one other = one ≡ other

-- two answers are the same, but for the words of a fault
abbrev pub AreSame : Result RunSettings SettingsFault → Result RunSettings SettingsFault → Type 0
AreSame (Ok one) (Ok other) = one ≡ other
AreSame (Err one) (Err other) = HaveOneReason one other
AreSame one other = ⊥

-- inputs set one thing, or are refused for one reason
abbrev pub OneSettings : Type 0
OneSettings = (cx : Context) (inputs : Inputs) (one other : Result RunSettings SettingsFault) → Sets cx inputs one → Sets cx inputs other → AreSame one other

-- It can't be that inputs set nothing and there is no reason for it. No law decides whether a text
-- is a filterset, so it is said in this form.
abbrev pub SomeSettings : Type 0
SomeSettings = (cx : Context) (inputs : Inputs) → ¬ ¬ ((given : Result RunSettings SettingsFault) × Sets cx inputs given)

-- inputs that set something for their run have settings for each test
abbrev pub SomeTest : Type 0
SomeTest = (cx : Context) (inputs : Inputs) (run : RunSettings) (test : Test) → Sets cx inputs (Ok run) → (it : PlanSettings) × SetsTest cx inputs test it

-- and one of each
abbrev pub OneTest : Type 0
OneTest = (cx : Context) (inputs : Inputs) (test : Test) (one other : PlanSettings) → SetsTest cx inputs test one → SetsTest cx inputs test other → one ≡ other

-- The same profile is chosen in two inputs, for the same mode and on the same platforms, and the
-- configurations of both say the same in each profile of its chain, in itself, in its parents and
-- in `default`, with the same overrides and script rules, and define the same groups and wrapper
-- scripts. Other profiles may be others, and so may their rules.
pub record AgreeOnChain (cx : Context) (inputs other : Inputs) : Type 0 where
  pub profile : other.profile ≡ inputs.profile
  pub mode : other.mode ≡ inputs.mode
  pub host : other.host ≡ inputs.host
  pub target : other.target ≡ inputs.target
  pub config : Whole Filterset PlatformSpec
  pub reads : Reads cx inputs config
  pub second : Whole Filterset PlatformSpec
  pub reads_second : Reads cx other second
  pub names : List Name
  pub chain : IsChain (parents_of (profiles_of config)) inputs.profile names
  pub each : All (λ name. values_of (profiles_of second) name ≡ values_of (profiles_of config) name) names
  pub rules : rules_in other names ≡ rules_in inputs names
  pub script_rules : script_rules_in other names ≡ script_rules_in inputs names
  pub groups : groups_in second ≡ groups_in config
  pub wrappers : second.loaded.scripts.wrapper ≡ config.loaded.scripts.wrapper

-- Two inputs choose one profile, for one mode and the same platforms, and each of their sources has
-- a like: one of the same kind and path whose file says the same everywhere but in profiles outside
-- of the chosen one's chain. Both have a configuration.
pub record AgreeInFiles (cx : Context) (inputs other : Inputs) : Type 0 where
  pub profile : other.profile ≡ inputs.profile
  pub mode : other.mode ≡ inputs.mode
  pub host : other.host ≡ inputs.host
  pub target : other.target ≡ inputs.target
  pub config : Whole Filterset PlatformSpec
  pub reads : Reads cx inputs config
  pub second : Whole Filterset PlatformSpec
  pub reads_second : Reads cx other second
  pub names : List Name
  pub chain : IsChain (parents_of (profiles_of config)) inputs.profile names
  pub sources : SourcesAgree names inputs.sources other.sources

-- then the configurations agree on the chain
abbrev pub AgreesOnChain : Type 0
AgreesOnChain = (cx : Context) (inputs other : Inputs) → AgreeInFiles cx inputs other → AgreeOnChain cx inputs other

-- profiles outside of the chosen one's chain, and their overrides, change nothing of what is set
-- for a run
abbrev pub Isolated : Type 0
Isolated = (cx : Context) (inputs other : Inputs) (one second : RunSettings) → AgreeOnChain cx inputs other → Sets cx inputs (Ok one) → Sets cx other (Ok second) → one ≡ second

-- and nothing of what is set for a test
abbrev pub IsolatesTests : Type 0
IsolatesTests = (cx : Context) (inputs other : Inputs) (test : Test) (one second : PlanSettings)
    → AgreeOnChain cx inputs other → SetsTest cx inputs test one → SetsTest cx other test second → one ≡ second

-- and nothing of which setup scripts are enabled
abbrev pub IsolatesScripts : Type 0
IsolatesScripts = (cx : Context) (inputs other : Inputs) (one second : RunSettings) (tests : List Test) (id : List ℕ)
    → AgreeOnChain cx inputs other → Sets cx inputs (Ok one) → Sets cx other (Ok second) → IsEnabled cx other tests id ↔ IsEnabled cx inputs tests id

-- more tests enable no fewer setup scripts
abbrev pub MoreEnableNoFewer : Type 0
MoreEnableNoFewer = (cx : Context) (inputs : Inputs) (some more : List Test) (id : List ℕ)
    → ((test : Test) → Contains some test → Contains more test) → IsEnabled cx inputs some id → IsEnabled cx inputs more id

-- an enabled setup script is a defined one
abbrev pub EnabledIsDefined : Type 0
EnabledIsDefined = (cx : Context) (inputs : Inputs) (config : Whole Filterset PlatformSpec) (tests : List Test) (id : List ℕ)
    → Reads cx inputs config → IsEnabled cx inputs tests id → is_some (script_named config.loaded.scripts.setup id) ≡ true

-- a limit is one at least
abbrev pub IsOneAtLeast : MaxFail → Type 0
IsOneAtLeast (limits.Count max_fail terminate) = 0 < max_fail
IsOneAtLeast limits.All = ⊤

abbrev pub SetsLimit : Type 0
SetsLimit = (cx : Context) (inputs : Inputs) (it : RunSettings) → Sets cx inputs (Ok it) → IsOneAtLeast it.max_fail

-- whatever configuration their sources come to, inputs pass, or are refused, as the current version
-- is judged by it
abbrev pub PassesByConfig : Type 0
PassesByConfig = (inputs : Inputs) (all : List Asking) (config : VersionOnlyConfig)
    → askings (sources_of inputs.sources) ≡ Ok all → Comes all config
    → pass_of inputs ≡ pass_of_config config inputs.current_version inputs.override_version_check

-- and a source that is refused refuses them
abbrev pub RefusedBySource : Type 0
RefusedBySource = (inputs : Inputs) (refusal : Refusal)
    → askings (sources_of inputs.sources) ≡ Err refusal → pass_of inputs ≡ Err pass_fault.VersionSource

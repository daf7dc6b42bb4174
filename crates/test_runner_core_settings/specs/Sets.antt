-- What inputs set for their run and for its tests, or why they set nothing.
use Rattle.std.specs.Prelude.{◌≡◌, ℕ, true, false, List, Result, Ok, Err, Contains, map}
use Rattle.nextest_config_elements_identifiers.specs.declared.test_group.TestGroup.{TestGroup}
use Rattle.nextest_config_resolution_load.specs.Checks.{rules_downward, script_rules_downward}
use Rattle.nextest_config_resolution_load.specs.Load.{IsFilterBy}
use Rattle.nextest_config_resolution_load.specs.Warn.{warnings_in}
use Rattle.nextest_config_resolution_load.specs.declared.load_error.LoadError.{LoadError}
use Rattle.nextest_config_resolution_load.specs.declared.load_error.LoadError.TheVariants as load
use Rattle.nextest_config_resolution_load.specs.declared.languages.FilterPurpose.TheVariants as purpose
use Rattle.nextest_config_resolution_overrides.specs.declared.placed_override.PlacedOverride.{PlacedOverride}
use Rattle.nextest_config_resolution_profiles.specs.Config.{IsChainOf, IsConfig, IsFilterIn, names_of, profiles_of}
use Rattle.nextest_config_resolution_profiles.specs.Whole.{Whole}
use Rattle.nextest_config_resolution_profiles.specs.declared.profile_error.ProfileNotFound.{ProfileNotFound}
use Rattle.nextest_config_resolution_scripts.specs.declared.script_rule.PlacedScriptRule.{PlacedScriptRule}
use Rattle.nextest_config_resolution_settings.specs.Rules.{profile_of, rules_of, script_profile_of}
use Rattle.nextest_config_resolution_warnings.specs.Warnings.{text_of}
use Rattle.nextest_filtering_compiling.specs.Context.{Context}
use Rattle.nextest_filtering_compiling.specs.Filtersets.{IsParsedFilterset, asks_tests}
use Rattle.nextest_filtering_compiling.specs.declared.filterset.Filterset.{Filterset}
use Rattle.nextest_filtering_filters.specs.Query.{Test}
use Rattle.nextest_filtering_filters.specs.declared.known_groups.KnownGroups.{KnownGroups}
use Rattle.nextest_filtering_filters.specs.declared.known_groups.KnownGroups.TheVariants as groups
use Rattle.nextest_filtering_ast.specs.Tree.{Tree}
use Rattle.test_runner_core_inputs.specs.declared.inputs.Inputs.{Inputs}
use Rattle.test_runner_core_plan.specs.declared.plan_settings.PlanSettings.{PlanSettings}
use Rattle.test_runner_core_platforms.specs.Grammar.{IsSpec}
use Rattle.test_runner_core_platforms.specs.Trees.{spec_of}
use Rattle.test_runner_core_platforms.specs.declared.platform_spec.PlatformSpec.{PlatformSpec}
use Rattle.test_runner_core_settings.specs.Chosen.{Chosen}
use Rattle.test_runner_core_settings.specs.Holding.{IsDefaultText, IsDefaultTree, ScriptRuleHolds}
use Rattle.test_runner_core_settings.specs.Pass.{features_of}
use Rattle.test_runner_core_settings.specs.Platforms.{has_repeated_fact, platforms_of}
use Rattle.test_runner_core_settings.specs.Settings.{AreOfRun, AreOfTest}
use Rattle.test_runner_core_settings.specs.declared.configured.RunSettings.{RunSettings}
use Rattle.test_runner_core_settings.specs.declared.settings_fault.SettingsFault.{SettingsFault}
use Rattle.test_runner_core_settings.specs.declared.settings_fault.SettingsFault.TheVariants as fault

-- which filterset a text is in a workspace, by what it is for, and which one as a default filter
abbrev pub IsFilter : Context → IsFilterBy Filterset
IsFilter cx = IsFilterIn IsParsedFilterset asks_tests cx

abbrev pub IsDefault : Context → List ℕ → Filterset → Type 0
IsDefault cx = IsFilter cx purpose.Default

-- no text is too deep for filtersets
abbrev pub IsTooDeep : List ℕ → Type 0
IsTooDeep text = ⊥

-- which platform spec a text is
abbrev pub IsPlatformSpec : List ℕ → PlatformSpec → Type 0
IsPlatformSpec text it = IsSpec text (spec_of it)

-- what the sources of inputs come to, or why they are refused
abbrev pub Loads : Context → Inputs → Result (Whole Filterset PlatformSpec) LoadError → Type 0
Loads cx inputs = IsConfig (IsFilter cx) IsPlatformSpec IsTooDeep (features_of inputs) inputs.root inputs.sources

-- the sources of inputs come to this configuration
abbrev pub Reads : Context → Inputs → Whole Filterset PlatformSpec → Type 0
Reads cx inputs config = Loads cx inputs (Ok config)

-- no profile has the chosen name; the fault has that name and those of all profiles
pub record HasNoProfile (cx : Context) (inputs : Inputs) (missing : ProfileNotFound) : Type 0 where
  pub config : Whole Filterset PlatformSpec
  pub reads : Reads cx inputs config
  pub name : missing.name ≡ inputs.profile
  pub known : missing.known ≡ names_of config
  pub none : ¬ Contains (names_of config) inputs.profile

-- ---- the chosen profile

-- the overrides of the profiles of a chain, in the order in which they are asked: by profile, then
-- by file from the highest, then as they are written
abbrev pub rules_in : Inputs → List (List ℕ) → List PlacedOverride
rules_in inputs names = rules_of profile_of (rules_downward inputs.sources) names

-- and their script rules, in the same order
abbrev pub script_rules_in : Inputs → List (List ℕ) → List PlacedScriptRule
script_rules_in inputs names = rules_of script_profile_of (script_rules_downward inputs.sources) names

-- the groups that a filterset may name: those that are defined
abbrev pub groups_in : Whole Filterset PlatformSpec → KnownGroups
groups_in config = groups.Known (map (λ group. group.name) config.loaded.groups)

-- this is the chosen profile
pub record IsChosen (cx : Context) (inputs : Inputs) (it : Chosen) : Type 0 where
  pub config : Whole Filterset PlatformSpec
  pub reads : Reads cx inputs config
  pub chained : IsChainOf (profiles_of config) inputs.profile it.chain
  pub ruled : it.rules ≡ rules_in inputs chained.names
  pub scripted : it.script_rules ≡ script_rules_in inputs chained.names
  pub defined : it.wrappers ≡ config.loaded.scripts.wrapper

-- the chosen profile sets this
pub record SetsBy (cx : Context) (inputs : Inputs) (it : RunSettings) : Type 0 where
  pub profile : Chosen
  pub chosen : IsChosen cx inputs profile
  pub known : has_repeated_fact inputs ≡ false
  pub settings : AreOfRun (platforms_of inputs) profile it
  pub groups : it.known_groups ≡ groups_in chosen.config

-- there is such a profile, and two facts of a platform repeat
pub record HasRepeatedFact (cx : Context) (inputs : Inputs) : Type 0 where
  pub profile : Chosen
  pub chosen : IsChosen cx inputs profile
  pub repeated : has_repeated_fact inputs ≡ true

-- what inputs set for their run, or the first reason in their configuration and platforms why they
-- set nothing
abbrev pub Sets : Context → Inputs → Result RunSettings SettingsFault → Type 0
Sets cx inputs (Ok it) = SetsBy cx inputs it
Sets cx inputs (Err (fault.Load refusal)) = Loads cx inputs (Err (load.Refused refusal))
Sets cx inputs (Err (fault.ProfileNotFound missing)) = HasNoProfile cx inputs missing
Sets cx inputs (Err fault.RepeatedFact) = HasRepeatedFact cx inputs

-- ---- tests

-- this is the chosen profile, and the tree of its default filter on the platforms of inputs
pub record IsAsked (cx : Context) (inputs : Inputs) (profile : Chosen) (default : Tree) : Type 0 where
  pub chosen : IsChosen cx inputs profile
  pub text : List ℕ
  pub set : IsDefaultText (platforms_of inputs) profile.rules profile.chain text
  pub read : IsDefaultTree cx text default

-- what inputs set for a test: the settings by the rules that hold on it, beside the default filter
-- of the run, and by the chain
pub record SetsTest (cx : Context) (inputs : Inputs) (test : Test) (it : PlanSettings) : Type 0 where
  pub profile : Chosen
  pub default : Tree
  pub asked : IsAsked cx inputs profile default
  pub settings : AreOfTest cx (platforms_of inputs) inputs.mode profile default test it

-- a test needs a setup script: a script rule names it that holds on the test
pub record NeedsScript (cx : Context) (inputs : Inputs) (test : Test) (id : List ℕ) : Type 0 where
  pub profile : Chosen
  pub default : Tree
  pub asked : IsAsked cx inputs profile default
  pub rule : PlacedScriptRule
  pub of_profile : Contains profile.script_rules rule
  pub names : Contains rule.config.setup id
  pub holds : ScriptRuleHolds cx (platforms_of inputs) default test rule

-- a setup script is enabled for some tests: some of them need it
abbrev pub IsEnabled : Context → Inputs → List Test → List ℕ → Type 0
IsEnabled cx inputs tests id = (test : Test) × Contains tests test × NeedsScript cx inputs test id

-- the group of a test is the one that its settings have
abbrev pub IsGroupOf : Context → Inputs → Test → TestGroup → Type 0
IsGroupOf cx inputs test group = (it : PlanSettings) × SetsTest cx inputs test it × (group ≡ it.test_group)

-- what is told of the keys and profiles in their files that no configuration knows
abbrev pub key_warnings : Inputs → List (List ℕ)
key_warnings inputs = map text_of (warnings_in inputs.sources)

-- Which rules of a profile hold on a test, and what they set.
use Rattle.std.specs.Prelude.{◌≡◌, ◌⊎◌, Bool, true, List, Option, IfSome, map}
use Rattle.nextest_config_elements_identifiers.specs.declared.test_group.TestGroup.{TestGroup}
use Rattle.nextest_config_elements_identifiers.specs.declared.test_group.TestGroup.TheVariants as group
use Rattle.nextest_config_elements_choices.specs.declared.run_mode.NextestRunMode.{NextestRunMode}
use Rattle.nextest_config_resolution_overrides.specs.declared.placed_override.PlacedOverride.{PlacedOverride}
use Rattle.nextest_config_resolution_profiles.specs.Evaluatable.{Evaluatable}
use Rattle.nextest_config_resolution_profiles.specs.Platforms.{OverrideOn, RuleOn, ScriptRuleOn}
use Rattle.nextest_config_resolution_scripts.specs.declared.script_rule.PlacedScriptRule.{PlacedScriptRule}
use Rattle.nextest_config_resolution_settings.specs.Layers.{Layers}
use Rattle.nextest_config_resolution_settings.specs.Nearest.{Source}
use Rattle.nextest_config_resolution_settings.specs.Rules.{AreHeld, IsLeast, NoneHoldsAndSets}
use Rattle.nextest_config_resolution_settings.specs.TestSettings.{AreSettings}
use Rattle.nextest_config_resolution_settings.specs.declared.test_settings.TestSettings.{TestSettings}
use Rattle.nextest_filtering_filters.specs.Query.{Test}
use Rattle.nextest_filtering_ast.specs.declared.leaf.BuildPlatform.{BuildPlatform}
use Rattle.nextest_filtering_ast.specs.declared.leaf.BuildPlatform.TheVariants as built

-- whether a rule holds for what is built for a platform
abbrev pub holds_for : {P F S : Type 0} → BuildPlatform → RuleOn P F S → Bool
holds_for built.Host it = it.for_host
holds_for built.Target it = it.for_target

-- a rule holds on a test: it does for the platform of the test's binary, and so does its filter,
-- beside the default filter; one without a filter holds on every test there
pub record Holds {P F S : Type 0} (OnTest : F → F → Test → Bool → Type 0) (default : F) (test : Test) (it : RuleOn P F S) : Type 0 where
  pub platform : holds_for test.binary.platform it ≡ true
  pub filter : IfSome it.rule.compiled.filter (λ filter. OnTest filter default test true)

-- these overrides of a profile hold on a test, in their order, and these script rules do
abbrev pub AreHeldOn : {F S : Type 0} → (F → F → Test → Bool → Type 0) → Evaluatable F S → Test → List (OverrideOn F S) → Type 0
AreHeldOn OnTest profile test held = AreHeld (Holds OnTest profile.default_filter.filter.now test) profile.rules held

abbrev pub AreScriptsHeldOn : {F S : Type 0} → (F → F → Test → Bool → Type 0) → Evaluatable F S → Test → List (ScriptRuleOn F S) → Type 0
AreScriptsHeldOn OnTest profile test held = AreHeld (Holds OnTest profile.default_filter.filter.now test) profile.script_rules held

-- what a rule says
abbrev pub placed_of : {P F S : Type 0} → RuleOn P F S → P
placed_of it = it.rule.placed

-- what sets the settings of a test on which these hold
abbrev pub layers_of : {F S : Type 0} → Evaluatable F S → List PlacedOverride → List PlacedScriptRule → Layers
layers_of profile held scripts = record { overrides = held; scripts = scripts; wrappers = profile.scripts.wrapper; chain = profile.chain }

-- the settings of a test are those by the rules that hold on it
pub record AreSettingsFor {F S T : Type 0} (OnTest : F → F → Test → Bool → Type 0) (Tells : T → Source → Type 0)
    (profile : Evaluatable F S) (mode : NextestRunMode) (test : Test) (it : TestSettings T) : Type 0 where
  pub held : List (OverrideOn F S)
  pub are : AreHeldOn OnTest profile test held
  pub scripts : List (ScriptRuleOn F S)
  pub scripts_are : AreScriptsHeldOn OnTest profile test scripts
  pub settings : AreSettings Tells mode (layers_of profile (map placed_of held) (map placed_of scripts)) it

-- the group that a rule puts tests into
abbrev pub group_set : {F S : Type 0} → OverrideOn F S → Option TestGroup
group_set it = it.rule.placed.config.rule.test_group

-- the group of the first of some rules that holds and sets one, or, where none does, the global one
abbrev pub IsGroupBy : {F S : Type 0} → (OverrideOn F S → Type 0) → List (OverrideOn F S) → TestGroup → Type 0
IsGroupBy {F} {S} Holding rules it =
    ((rule : OverrideOn F S) × IsLeast Holding group_set rules rule it) ⊎ (NoneHoldsAndSets Holding group_set rules × (it ≡ group.Global))

-- the group of a test, by the rules of a profile that hold on it
abbrev pub IsGroupFor : {F S : Type 0} → (F → F → Test → Bool → Type 0) → Evaluatable F S → Test → TestGroup → Type 0
IsGroupFor OnTest profile test it = IsGroupBy (Holds OnTest profile.default_filter.filter.now test) profile.rules it

-- On which tests overrides and script rules hold, and which default filter is in force.
use Rattle.std.specs.Prelude.{◌⊎◌, ℕ, true, List, Option, None, Some, ⊤}
use Rattle.nextest_config_resolution_load.specs.Rules.{Conditions, conditions_of, script_conditions_of}
use Rattle.nextest_config_resolution_overrides.specs.declared.placed_override.PlacedOverride.{PlacedOverride}
use Rattle.nextest_config_resolution_scripts.specs.declared.script_rule.PlacedScriptRule.{PlacedScriptRule}
use Rattle.nextest_config_resolution_settings.specs.Layers.{in_command}
use Rattle.nextest_config_resolution_settings.specs.Profile.{IsSetTo}
use Rattle.nextest_config_resolution_settings.specs.Rules.{IsLeast, NoneHoldsAndSets}
use Rattle.nextest_config_resolution_keys.specs.declared.profile_config.ProfileConfig.{ProfileConfig}
use Rattle.nextest_filtering_arguments.specs.declared.ban.FiltersetKind.TheVariants as purpose
use Rattle.nextest_filtering_compiling.specs.Accepting.{IsAccepted}
use Rattle.nextest_filtering_compiling.specs.Context.{Context}
use Rattle.nextest_filtering_compiling.specs.Trees.{TreeIsOn}
use Rattle.nextest_filtering_filters.specs.Query.{Test}
use Rattle.nextest_filtering_filters.specs.declared.known_groups.KnownGroups.TheVariants as groups
use Rattle.nextest_filtering_ast.specs.Tree.{Tree}
use Rattle.nextest_filtering_ast.specs.declared.leaf.BuildPlatform.TheVariants as built_for
use Rattle.test_runner_core_settings.specs.Platforms.{HoldsFor, Platforms}
use Rattle.nextest_config_resolution_keys.specs.Command.{default_filter_of}
use Rattle.nextest_config_resolution_keys.specs.Command as command_key

-- ---- tests

-- the filter of a rule holds on a test, beside the default filter; it may ask for no group. One
-- that isn't there holds.
abbrev pub FilterHolds : Context → Tree → Test → Option (List ℕ) → Type 0
FilterHolds cx default test None = ⊤
FilterHolds cx default test (Some text) =
    (tree : Tree) × IsAccepted cx purpose.OverrideFilter groups.Unavailable text tree × TreeIsOn cx.graph tree default test (λ m. ⊥) true

-- a rule with these texts holds on a test: for the platform that the test's binary is built for,
-- and by its filter
abbrev pub TextsHold : Context → Platforms → Tree → Test → Conditions → Type 0
TextsHold cx platforms default test it = HoldsFor platforms test.binary.platform it × FilterHolds cx default test it.filter

-- an override does, and a script rule
abbrev pub RuleHolds : Context → Platforms → Tree → Test → PlacedOverride → Type 0
RuleHolds cx platforms default test rule = TextsHold cx platforms default test (conditions_of rule)

abbrev pub ScriptRuleHolds : Context → Platforms → Tree → Test → PlacedScriptRule → Type 0
ScriptRuleHolds cx platforms default test rule = TextsHold cx platforms default test (script_conditions_of rule)

-- ---- the default filter

-- an override holds for what is built for the target
abbrev pub HoldsForTarget : Platforms → PlacedOverride → Type 0
HoldsForTarget platforms rule = HoldsFor platforms built_for.Target (conditions_of rule)

-- what an override sets as the default filter
abbrev pub default_set : PlacedOverride → Option (List ℕ)
default_set rule = rule.config.command.default_filter

-- the text of the default filter: that of the first of some overrides that holds for the target and
-- sets one, else that of the nearest of some profiles that does
abbrev pub IsDefaultText : Platforms → List PlacedOverride → List ProfileConfig → List ℕ → Type 0
IsDefaultText platforms rules chain text =
    ((rule : PlacedOverride) × IsLeast (HoldsForTarget platforms) default_set rules rule text)
    ⊎ (NoneHoldsAndSets (HoldsForTarget platforms) default_set rules × IsSetTo (in_command command_key.default_filter_of) chain text)

-- a text is this tree, as a default filter, which may ask for no group
abbrev pub IsDefaultTree : Context → List ℕ → Tree → Type 0
IsDefaultTree cx text tree = IsAccepted cx purpose.DefaultFilter groups.Unavailable text tree

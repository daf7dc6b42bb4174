-- The profile that inputs choose, as its rules and its chain.
use Rattle.std.specs.Prelude.{List}
use Rattle.nextest_config_resolution_overrides.specs.declared.placed_override.PlacedOverride.{PlacedOverride}
use Rattle.nextest_config_resolution_scripts.specs.declared.script_config.NamedScript.{NamedScript}
use Rattle.nextest_config_resolution_scripts.specs.declared.script_rule.PlacedScriptRule.{PlacedScriptRule}
use Rattle.nextest_config_resolution_scripts.specs.declared.wrapper_script.WrapperScriptConfig.{WrapperScriptConfig}
use Rattle.nextest_config_resolution_settings.specs.Layers.{Layers}
use Rattle.nextest_config_resolution_keys.specs.declared.profile_config.ProfileConfig.{ProfileConfig}

-- its overrides and its script rules, each in the order in which they are asked; the wrapper
-- scripts that are defined; and its chain: its own values and those of its parents, and those of
-- `default`
pub record Chosen : Type 0 where
  pub rules : List PlacedOverride
  pub script_rules : List PlacedScriptRule
  pub wrappers : List (NamedScript WrapperScriptConfig)
  pub chain : List ProfileConfig

-- what sets the settings of a test on which these overrides and script rules hold
abbrev pub layers_of : Chosen → List PlacedOverride → List PlacedScriptRule → Layers
layers_of it held scripts = record { overrides = held; scripts = scripts; wrappers = it.wrappers; chain = it.chain }

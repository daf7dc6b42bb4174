-- What sets the settings of a test.
use Rattle.std.specs.Prelude.{List, Option}
use Rattle.nextest_config_resolution_keys.specs.declared.command.CommandValues.{CommandValues}
use Rattle.nextest_config_resolution_keys.specs.declared.own.OwnValues.{OwnValues}
use Rattle.nextest_config_resolution_keys.specs.declared.report.ReportValues.{ReportValues}
use Rattle.nextest_config_resolution_keys.specs.declared.test.TestValues.{TestValues}
use Rattle.nextest_config_resolution_overrides.specs.declared.placed_override.PlacedOverride.{PlacedOverride}
use Rattle.nextest_config_resolution_overrides.specs.declared.rule.RuleValues.{RuleValues}
use Rattle.nextest_config_resolution_scripts.specs.declared.script_config.NamedScript.{NamedScript}
use Rattle.nextest_config_resolution_scripts.specs.declared.script_rule.PlacedScriptRule.{PlacedScriptRule}
use Rattle.nextest_config_resolution_scripts.specs.declared.wrapper_script.WrapperScriptConfig.{WrapperScriptConfig}
use Rattle.nextest_config_resolution_settings.specs.Nearest.{lent_layers}
use Rattle.nextest_config_resolution_settings.specs.declared.tracking.TestLayers.{TestLayers}
use Rattle.nextest_config_resolution_keys.specs.declared.profile_config.ProfileConfig.{ProfileConfig}

-- the overrides and the script rules that hold on it, each in their order, the wrapper scripts that
-- are defined, and the chain of its profile
pub record Layers : Type 0 where
  pub overrides : List PlacedOverride
  pub scripts : List PlacedScriptRule
  pub wrappers : List (NamedScript WrapperScriptConfig)
  pub chain : List ProfileConfig

abbrev pub layers_in : TestLayers → Layers
layers_in it = record { overrides = lent_layers it.overrides.now; scripts = lent_layers it.scripts.now; wrappers = it.wrappers.now; chain = lent_layers it.chain.now }

-- ---- which value a layer sets for a key, by the list that the key is of

-- a profile
abbrev pub in_own : {V : Type 0} → (OwnValues → Option V) → ProfileConfig → Option V
in_own value_of = λ profile. value_of profile.own

abbrev pub in_command : {V : Type 0} → (CommandValues → Option V) → ProfileConfig → Option V
in_command value_of = λ profile. value_of profile.command

abbrev pub in_test : {V : Type 0} → (TestValues → Option V) → ProfileConfig → Option V
in_test value_of = λ profile. value_of profile.test

abbrev pub in_report : {V : Type 0} → (ReportValues → Option V) → ProfileConfig → Option V
in_report value_of = λ profile. value_of profile.report

-- an override
abbrev pub in_rule : {V : Type 0} → (RuleValues → Option V) → PlacedOverride → Option V
in_rule value_of = λ rule. value_of rule.config.rule

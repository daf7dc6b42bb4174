-- What the laws say.
use Rattle.std.specs.Prelude.{◌≡◌, ◌↔◌, ℕ, List, Ok, is_some}
use Rattle.std.specs.List.{list_any}
use Rattle.std.specs.Str.{bytes_eq}
use Rattle.toml.specs.Data.{Data, Members}
use Rattle.nextest_config_resolution_keys.specs.Rows.{refusal, refusal_of}
use Rattle.nextest_config_resolution_scripts.specs.Accepted.{IsSetupScript, IsWrapperScript, NamesScripts}
use Rattle.nextest_config_resolution_scripts.specs.Defined.{script_named}
use Rattle.nextest_config_resolution_scripts.specs.Rules.{IsScriptRule, names_by, script_rule_in, script_rule_rows}
use Rattle.nextest_config_resolution_scripts.specs.Scripts.{setup_script_in, wrapper_script_in}
use Rattle.nextest_config_resolution_scripts.specs.declared.script_config.NamedScript.{NamedScript}
use Rattle.nextest_config_resolution_scripts.specs.declared.script_rule.ScriptRuleConfig.{ScriptRuleConfig}
use Rattle.nextest_config_resolution_scripts.specs.declared.setup_script.SetupScriptConfig.{SetupScriptConfig}
use Rattle.nextest_config_resolution_scripts.specs.declared.wrapper_script.WrapperScriptConfig.{WrapperScriptConfig}

-- a table is read as a setup script exactly if it is that one
abbrev pub AcceptedSetupScript : Type 0
AcceptedSetupScript = (members : Members) (it : SetupScriptConfig) → (setup_script_in members ≡ Ok it) ↔ IsSetupScript members it

-- and so with a wrapper script
abbrev pub AcceptedWrapperScript : Type 0
AcceptedWrapperScript = (members : Members) (it : WrapperScriptConfig) → (wrapper_script_in members ≡ Ok it) ↔ IsWrapperScript members it

-- and a value as names of setup scripts
abbrev pub AcceptedNames : Type 0
AcceptedNames = (given : Data) (ids : List (List ℕ)) → (names_by given ≡ Ok ids) ↔ NamesScripts given ids

-- a table is read as a script rule exactly if each of its keys reads it as its part
abbrev pub AcceptedScriptRule : Type 0
AcceptedScriptRule = (given : Members) (it : ScriptRuleConfig) → (script_rule_in given ≡ Ok it) ↔ IsScriptRule given it

-- and is refused for what its keys refuse it for
abbrev pub RefusedScriptRule : Type 0
RefusedScriptRule = (given : Members) → refusal_of (script_rule_in given) ≡ refusal script_rule_rows given

-- a script of a name is found exactly if some script has the name
abbrev pub NamedIsFound : Type 0 → Type 0
NamedIsFound A = (scripts : List (NamedScript A)) (id : List ℕ) → is_some (script_named scripts id) ≡ list_any (λ it. bytes_eq id it.id) scripts

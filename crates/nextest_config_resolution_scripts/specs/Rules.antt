-- The script rules of a profile, as a file says them: which scripts some of its tests need.
use Rattle.std.specs.Prelude.{◌≡◌, ℕ, List, [], ◌∷◌, Option, Ok, Err, codes, unwrap_or}
use Rattle.toml.specs.Data.{Data, array, Members}
use Rattle.nextest_config_elements_deserialize.specs.Keys.{table_by}
use Rattle.nextest_config_elements_deserialize.specs.Names.{config_identifier_in}
use Rattle.nextest_config_elements_toml.specs.Reading.{Reading, ◌>>=◌}
use Rattle.nextest_config_resolution_keys.specs.Items.{items_in}
use Rattle.nextest_config_resolution_keys.specs.Keys.{Key, value_of}
use Rattle.nextest_config_resolution_keys.specs.Rows.{Row, both, made_of, nothing, row_of}
use Rattle.nextest_config_resolution_overrides.specs.Condition.{filter, platform}
use Rattle.nextest_config_resolution_overrides.specs.declared.platforms.OverridePlatforms.{OverridePlatforms}
use Rattle.nextest_config_resolution_scripts.specs.declared.script_rule.ScriptRuleConfig.{ScriptRuleConfig}

-- `list-wrapper`: the wrapper script that the command is handed to which lists the tests
abbrev pub list_wrapper : Key (List ℕ)
list_wrapper = record { path = codes "list-wrapper" ∷ []; reading = config_identifier_in }

-- `run-wrapper`: the wrapper script that the commands of the tests are handed to
abbrev pub run_wrapper : Key (List ℕ)
run_wrapper = record { path = codes "run-wrapper" ∷ []; reading = config_identifier_in }

-- the name of one script, or a list of them
abbrev pub one_name : Data → Reading (List (List ℕ))
one_name given = do
  id ← config_identifier_in given
  Ok (id ∷ [])

abbrev pub names_by : Data → Reading (List (List ℕ))
names_by (array items) = items_in config_identifier_in 0 items
names_by given = one_name given

-- `setup`: the setup scripts that are run before the tests
abbrev pub setup : Key (List (List ℕ))
setup = record { path = codes "setup" ∷ []; reading = names_by }

-- the keys of a script rule
abbrev pub script_rule_rows : List Row
script_rule_rows = row_of filter ∷ row_of list_wrapper ∷ row_of platform ∷ row_of run_wrapper ∷ row_of setup ∷ []

-- their values, and what a table says of them
abbrev pub ScriptRuleValues : Type 0
ScriptRuleValues = Option (List ℕ) × (Option (List ℕ) × (Option OverridePlatforms × (Option (List ℕ) × (Option (List (List ℕ)) × Unit {0}))))

abbrev pub values_in : Members → Reading ScriptRuleValues
values_in = both (value_of filter) (both (value_of list_wrapper) (both (value_of platform) (both (value_of run_wrapper) (both (value_of setup) nothing))))

-- a script rule of its values: one without `setup` names no setup script
abbrev pub names_or_none : Option (List (List ℕ)) → List (List ℕ)
names_or_none names = unwrap_or names []

abbrev pub rule_with : ScriptRuleValues → ScriptRuleConfig
rule_with it = record {
  filter = it.0;
  list_wrapper = it.1.0;
  platform = it.1.1.0;
  run_wrapper = it.1.1.1.0;
  setup = names_or_none it.1.1.1.1.0;
}

-- a table as a script rule: refused for the first place, by the bytes of the keys, at which one of
-- its keys refuses it
unfoldable pub script_rule_in : Members → Reading ScriptRuleConfig
script_rule_in given = made_of rule_with (values_in given)

-- each key reads a table as its part of a script rule
pub record IsScriptRule (given : Members) (it : ScriptRuleConfig) : Type 0 where
  pub filter : value_of filter given ≡ Ok it.filter
  pub list_wrapper : value_of list_wrapper given ≡ Ok it.list_wrapper
  pub platform : value_of platform given ≡ Ok it.platform
  pub run_wrapper : value_of run_wrapper given ≡ Ok it.run_wrapper
  pub setup : made_of names_or_none (value_of setup given) ≡ Ok it.setup

-- a list of tables, each of which is one
abbrev pub script_rules_of : Data → Reading (List ScriptRuleConfig)
script_rules_of (array items) = items_in (table_by script_rule_in) 0 items
script_rules_of given = Err []

-- `scripts`: the script rules of a profile
abbrev pub script_rules : Key (List ScriptRuleConfig)
script_rules = record { path = codes "scripts" ∷ []; reading = script_rules_of }

-- What a file says, whatever stands in others: each value can stand at its key, and it has these
-- rules, groups and scripts.
use Rattle.std.specs.Prelude.{ℕ, List, [], ◌∷◌, Option, None, Some, Ok, Err, codes, unwrap_or}
use Rattle.toml.specs.Data.{Data, Members, no_members, member, get_member}
use Rattle.nextest_config_elements_toml.specs.Reading.{Reading, ◌>>=◌, under}
use Rattle.nextest_config_elements_deserialize.specs.Keys.{table_by}
use Rattle.nextest_config_elements_versions.specs.Demand.{experimental_in, nextest_version_in}
use Rattle.nextest_config_resolution_load.specs.declared.file_config.FileConfig.{FileConfig}
use Rattle.nextest_config_resolution_load.specs.declared.file_config.ProfileRules.{ProfileRules}
use Rattle.nextest_config_resolution_load.specs.declared.file_config.TableRules.{TableRules}
use Rattle.nextest_config_resolution_overrides.specs.Groups.{groups_at}
use Rattle.nextest_config_resolution_overrides.specs.Overrides.{overrides}
use Rattle.nextest_config_resolution_overrides.specs.declared.override_config.OverrideConfig.{OverrideConfig}
use Rattle.nextest_config_resolution_scripts.specs.Rules.{script_rules}
use Rattle.nextest_config_resolution_scripts.specs.Scripts.{old_scripts_at, scripts_at}
use Rattle.nextest_config_resolution_scripts.specs.declared.script_rule.ScriptRuleConfig.{ScriptRuleConfig}
use Rattle.nextest_config_resolution_keys.specs.File.{store_dir_at}
use Rattle.nextest_config_resolution_keys.specs.Keys.{value_of}
use Rattle.nextest_config_resolution_keys.specs.Profile.{ProfileTuple, profile_tuple_in}
use Rattle.nextest_config_resolution_keys.specs.Rows.{both, made_of, nothing}

-- whether each value is one, and else where the first stands that is none
abbrev pub check_of : {A : Type 0} → Reading A → Reading (Unit {0})
check_of (Ok x) = Ok tt
check_of (Err path) = Err path

-- the values of a profile's keys, and its rules
abbrev pub TableValues : Type 0
TableValues = ProfileTuple × (Option (List OverrideConfig) × (Option (List ScriptRuleConfig) × Unit {0}))

abbrev pub table_values_in : Members → Reading TableValues
table_values_in = both profile_tuple_in (both (value_of overrides) (both (value_of script_rules) nothing))

-- the overrides and the script rules of a profile; a key that is left out has none
abbrev pub rules_with : TableValues → TableRules
rules_with it = record { overrides = unwrap_or it.1.0 []; scripts = unwrap_or it.1.1.0 [] }

-- those of a profile whose values can stand at their keys
unfoldable pub rules_in_profile : Members → Reading TableRules
rules_in_profile members = made_of rules_with (table_values_in members)

-- with its name
abbrev pub rules_of_profile : List ℕ → Data → Reading ProfileRules
rules_of_profile name given = do
  rules ← table_by rules_in_profile given
  Ok (record { profile = name; overrides = rules.overrides; scripts = rules.scripts })

-- those of each profile of a table, in the order of their names
abbrev pub profiles_in_file : Members → Reading (List ProfileRules)
profiles_in_file no_members = Ok []
profiles_in_file (member name given more) = do
  one ← under name (rules_of_profile name given)
  more_profiles ← profiles_in_file more
  Ok (one ∷ more_profiles)

-- what stands under `profile`: a table of them, or nothing
abbrev pub profiles_of_file : Option Data → Reading (List ProfileRules)
profiles_of_file None = Ok []
profiles_of_file (Some given) = table_by profiles_in_file given

abbrev pub profiles_at_file : Members → Reading (List ProfileRules)
profiles_at_file top = under (codes "profile") (profiles_of_file (get_member (codes "profile") top))

-- a file, by the bytes of its keys; what it asks for of features and versions is kept elsewhere
unfoldable pub file_in : Members → Reading FileConfig
file_in top = do
  features ← check_of (experimental_in top)
  versions ← check_of (nextest_version_in top)
  profiles ← profiles_at_file top
  old_scripts ← old_scripts_at top
  scripts ← scripts_at top
  store ← check_of (store_dir_at top)
  groups ← groups_at top
  Ok (record { profiles = profiles; groups = groups; old_scripts = old_scripts; scripts = scripts })

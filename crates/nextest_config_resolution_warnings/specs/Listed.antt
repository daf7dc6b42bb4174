-- Tables whose keys are in lists.
use Rattle.std.specs.Prelude.{List, [], ◌∷◌, ◌++◌, codes, Ok}
use Rattle.nextest_config_resolution_keys.specs.Keys.{Key}
use Rattle.nextest_config_resolution_keys.specs.Profile.{profile_rows}
use Rattle.nextest_config_resolution_keys.specs.Rows.{Row, row_of}
use Rattle.nextest_config_resolution_overrides.specs.Overrides.{override_rows, overrides}
use Rattle.nextest_config_resolution_overrides.specs.Platforms.{host, target}
use Rattle.nextest_config_resolution_scripts.specs.Rules.{script_rule_rows, script_rules}
use Rattle.nextest_config_resolution_warnings.specs.declared.listed.Listed.{Listed}
use Rattle.nextest_config_resolution_warnings.specs.declared.listed.Listed.TheVariants as lists

-- `archive`: what a profile says of archives, whatever that is
abbrev pub archive : Key (Unit {0})
archive = record { path = codes "archive" ∷ []; reading = λ given. Ok tt }

-- their keys
abbrev pub rows_of : Listed → List Row
rows_of lists.Profile = profile_rows ++ row_of archive ∷ row_of overrides ∷ row_of script_rules ∷ []
rows_of lists.Override = override_rows
rows_of lists.ScriptRule = script_rule_rows
rows_of lists.Platforms = row_of host ∷ row_of target ∷ []

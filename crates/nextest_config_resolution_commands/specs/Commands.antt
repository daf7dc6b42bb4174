-- The command of a script, as a configuration says it.
use Rattle.std.specs.Prelude.{ℕ, List, [], ◌∷◌, Option, None, Some, Ok, Err, codes, nat_eq, if◌then◌else◌}
use Rattle.std.specs.Option.{option_map_or}
use Rattle.std.specs.List.{starts_with}
use Rattle.toml.specs.Data.{Data, string, table, Members, no_members, member, as_str}
use Rattle.nextest_config_elements_toml.specs.Reading.{Reading, ◌>>=◌, defaulted, under}
use Rattle.nextest_config_elements_deserialize.specs.Keys.{table_by, texts_of}
use Rattle.nextest_config_elements_deserialize.specs.Words.{one_of}
use Rattle.nextest_config_elements_deserialize.specs.Below.{defaulted_by, required_by}
use Rattle.nextest_config_resolution_commands.specs.Splitting.{words_of}
use Rattle.nextest_config_resolution_commands.specs.declared.command_line.CommandLine.{CommandLine}
use Rattle.nextest_config_resolution_commands.specs.declared.script_command.ScriptCommand.{ScriptCommand}
use Rattle.nextest_config_resolution_commands.specs.declared.script_command.ScriptCommandEnvMap.{ScriptCommandEnvMap}
use Rattle.nextest_config_resolution_commands.specs.declared.script_command.ScriptCommandRelativeTo.{ScriptCommandRelativeTo}
use Rattle.nextest_config_resolution_commands.specs.declared.script_command.ScriptCommandRelativeTo.TheVariants as place

-- what is run: the first word is the program, and it is called with the others
abbrev pub line_of : List (List ℕ) → Option CommandLine
line_of [] = None
line_of (program ∷ args) = Some (record { program = program; args = args })

-- a text without words, or one with a quote that isn't closed, is none
abbrev pub accepted_line : Option (List (List ℕ)) → Reading CommandLine
accepted_line None = Err []
accepted_line (Some words) = option_map_or Ok (line_of words) (Err [])

-- the words of a text, or of a list of texts
abbrev pub line_in : Data → Reading CommandLine
line_in (string text) = accepted_line (words_of text)
line_in given = do
  words ← texts_of given
  accepted_line (Some words)

-- a name with a text
abbrev pub named_text : List ℕ → Data → Option (List ℕ × List ℕ)
named_text name given = option_map_or (λ text. Some (name, text)) (as_str given) None

-- a variable: any name but those that begin with `NEXTEST`, with a text
abbrev pub variable_of : List ℕ → Data → Option (List ℕ × List ℕ)
variable_of name given = if starts_with nat_eq name (codes "NEXTEST") then None else named_text name given

abbrev pub variable_in : List ℕ → Data → Reading (List ℕ × List ℕ)
variable_in name given = option_map_or Ok (variable_of name given) (Err [])

-- those of a table, by the bytes of their names; what is wrong in one stands at its name
abbrev pub variables_in : Members → Reading (List (List ℕ × List ℕ))
variables_in no_members = Ok []
variables_in (member name given more) = do
  variable ← under name (variable_in name given)
  variables ← variables_in more
  Ok (variable ∷ variables)

abbrev pub env_of : Members → Reading ScriptCommandEnvMap
env_of members = do
  variables ← variables_in members
  Ok (record { variables = variables })

-- a table of variables
abbrev pub env_in : Data → Reading ScriptCommandEnvMap
env_in = table_by env_of

-- without the key there are none
abbrev pub no_variables : ScriptCommandEnvMap
no_variables = record { variables = [] }

-- where a program is looked for
abbrev pub relative_to : Data → Option ScriptCommandRelativeTo
relative_to = one_of (
    (codes "none", place.None) ∷ (codes "workspace-root", place.WorkspaceRoot) ∷ (codes "target", place.Target) ∷ [])

-- a table, by the bytes of its keys; what is run must stand there
abbrev pub command_table : Members → Reading ScriptCommand
command_table members = do
  line ← required_by (codes "command-line") line_in members
  env ← defaulted_by (codes "env") env_in no_variables members
  relative ← defaulted (codes "relative-to") relative_to place.None members
  Ok (record { program = line.program; args = line.args; env = env; relative_to = relative })

-- what is run alone, without variables and as it is written
abbrev pub plain_command : Data → Reading ScriptCommand
plain_command given = do
  line ← line_in given
  Ok (record { program = line.program; args = line.args; env = no_variables; relative_to = place.None })

-- a command: a table, or what is run alone
abbrev pub command_in : Data → Reading ScriptCommand
command_in (table members) = command_table members
command_in given = plain_command given

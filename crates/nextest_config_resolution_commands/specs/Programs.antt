-- Where the program of a script stands, and the id of its run.
use Rattle.std.specs.Prelude.{ℕ, ◌||◌, List, [], ◌++◌, Option, codes, decimal, nat_eq, if◌then◌else◌}
use Rattle.std.specs.Option.{option_map_or}
use Rattle.std.specs.List.{starts_with}
use Rattle.uuid.specs.Text.{hyphenated_text, lower}
use Rattle.nextest_config_elements_identifiers.specs.Config.{is_empty}
use Rattle.nextest_config_resolution_commands.specs.declared.script_command.ScriptCommandRelativeTo.{ScriptCommandRelativeTo}
use Rattle.nextest_config_resolution_commands.specs.declared.script_command.ScriptCommandRelativeTo.TheVariants as place

-- a path in a directory: alone where it begins at the root, or the directory is the empty text
abbrev pub path_in : List ℕ → List ℕ → List ℕ
path_in directory path = if starts_with nat_eq path (codes "/") || is_empty directory then path else directory ++ (codes "/" ++ path)

-- where a program stands, by the root of the workspace and the target directory
abbrev pub program_at : List ℕ → List ℕ → ScriptCommandRelativeTo → List ℕ → List ℕ
program_at root target place.None program = program
program_at root target place.WorkspaceRoot program = path_in root program
program_at root target place.Target program = path_in target program

-- the id of a script's run: that of the run, the script, and the sub-run of a stress run
abbrev pub run_of_script : List ℕ → List ℕ → Option ℕ → List ℕ
run_of_script run script stress = hyphenated_text lower run ++ (codes ":" ++ (script ++ option_map_or (λ number. codes "@stress-" ++ decimal number) stress []))

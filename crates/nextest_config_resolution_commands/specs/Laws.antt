-- What the laws say.
use Rattle.std.specs.Prelude.{◌≡◌, ◌↔◌, ℕ, List, Some, Ok}
use Rattle.toml.specs.Data.{Data}
use Rattle.nextest_config_resolution_commands.specs.Accepted.{IsCommand}
use Rattle.nextest_config_resolution_commands.specs.Commands.{command_in}
use Rattle.nextest_config_resolution_commands.specs.Splitting.{words_of}
use Rattle.nextest_config_resolution_commands.specs.Words.{AreWords}
use Rattle.nextest_config_resolution_commands.specs.declared.script_command.ScriptCommand.{ScriptCommand}

-- the words of a text are those that its pieces make up
abbrev pub WordsByPieces : Type 0
WordsByPieces = (text : List ℕ) (words : List (List ℕ)) → (words_of text ≡ Some words) ↔ AreWords text words

-- a text has one list of words at most
abbrev pub OneSplit : Type 0
OneSplit = (text : List ℕ) (a b : List (List ℕ)) → AreWords text a → AreWords text b → a ≡ b

-- a value is read as a command exactly if it is that command
abbrev pub AcceptedCommand : Type 0
AcceptedCommand = (given : Data) (it : ScriptCommand) → (command_in given ≡ Ok it) ↔ IsCommand given it

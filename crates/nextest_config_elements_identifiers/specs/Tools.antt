-- Which tool, with which file of its own, a text names.
use Rattle.std.specs.Prelude.{◌≡◌, ℕ, ◌==◌, List, Option, Some, None, Result, Ok, Err, slice_index, if◌then◌else◌}
use Rattle.nextest_config_elements_identifiers.specs.Identifier.{tool_name}
use Rattle.nextest_config_elements_identifiers.specs.Parts.{division_of}
use Rattle.nextest_config_elements_identifiers.specs.declared.invalid_identifier.InvalidIdentifier.{InvalidIdentifier}
use Rattle.nextest_config_elements_identifiers.specs.declared.tool_config_file.ToolConfigFile.{ToolConfigFile}
use Rattle.nextest_config_elements_identifiers.specs.declared.tool_config_file.ToolConfigFileError.{ToolConfigFileError}
use Rattle.nextest_config_elements_identifiers.specs.declared.tool_config_file.ToolConfigFileError.TheVariants as fault

-- the file at this path, for the tool that is read
abbrev pub file_for : List ℕ → Result (List ℕ) InvalidIdentifier → Option ToolConfigFile
file_for path (Ok tool) = Some (record { tool = tool; config_file = path })
file_for path (Err refusal) = None

-- the tool and the file of `NAME:PATH`, where the path is absolute
abbrev pub file_of : Option (List ℕ × List ℕ) → Option ToolConfigFile
file_of None = None
file_of (Some parts) = if slice_index parts.1 0 == 47 then file_for parts.1 (tool_name parts.0) else None

-- the tool and the file that a text names
abbrev pub tool_config_file : List ℕ → Option ToolConfigFile
tool_config_file text = file_of (division_of text)

-- a read gives what the text names; running out of memory says nothing
abbrev pub ReadsToolConfigFile : List ℕ → Result ToolConfigFile ToolConfigFileError → Type 0
ReadsToolConfigFile text (Ok file) = tool_config_file text ≡ Some file
ReadsToolConfigFile text (Err fault.OutOfMemory) = Unit {0}
ReadsToolConfigFile text (Err (fault.Refused _)) = tool_config_file text ≡ None

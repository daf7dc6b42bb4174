-- What a call that reads answers.
use Rattle.std.specs.Prelude.{◌≡◌, ℕ, List, Option, None, Some, Result, Ok, Err, ⊤}
use Rattle.serde_json.specs.Data.{Data}
use Rattle.nextest_json.specs.Documents.{whole}
use Rattle.nextest_json.specs.declared.document.JsonDocument.{JsonDocument}
use Rattle.test_runner_core_inputs.specs.Reading.{read_inputs}
use Rattle.test_runner_core_inputs.specs.declared.inputs.Inputs.{Inputs}
use Rattle.test_runner_core_inputs.specs.declared.inputs_error.InputsError.{InputsError}
use Rattle.test_runner_core_inputs.specs.declared.inputs_error.InputsError.TheVariants as error
use Rattle.test_runner_core_inputs.specs.declared.inputs_error.InputsRefusal.TheVariants as refusal

-- what was parsed is the value that the bytes are
abbrev pub Parses : Result JsonDocument InputsError → Option Data → Type 0
Parses (Ok document) given = given ≡ Some (whole document)
Parses (Err (error.Refused refusal.Syntax)) given = given ≡ None
Parses (Err (error.Refused (refusal.Field path))) given = ⊥
Parses (Err error.OutOfMemory) given = ⊤

-- a read gives what the bytes are as inputs; want of memory says nothing
abbrev pub Reads : List ℕ → Result Inputs InputsError → Type 0
Reads bytes (Ok inputs) = read_inputs bytes ≡ Ok inputs
Reads bytes (Err (error.Refused refused)) = read_inputs bytes ≡ Err refused
Reads bytes (Err error.OutOfMemory) = ⊤

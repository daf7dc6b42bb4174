-- What holds of every reading of inputs.
use Rattle.std.specs.Prelude.{◌≡◌, ◌↔◌, ℕ, List, [], ◌∷◌, Result, Ok, Err}
use Rattle.test_runner_core_inputs.specs.Faults.{faults_of}
use Rattle.test_runner_core_inputs.specs.Reading.{read_inputs}
use Rattle.test_runner_core_inputs.specs.Shape.{AreInputs}
use Rattle.test_runner_core_inputs.specs.declared.inputs.Inputs.{Inputs}
use Rattle.test_runner_core_inputs.specs.declared.inputs_error.InputsRefusal.{InputsRefusal}

-- bytes are read exactly if they have the shape of inputs, and as those
abbrev pub AcceptedShape : Type 0
AcceptedShape = (bytes : List ℕ) (inputs : Inputs) → (read_inputs bytes ≡ Ok inputs) ↔ AreInputs bytes inputs

-- what is read has no fault, and a refusal is the first fault
abbrev pub IsFirst : Result Inputs InputsRefusal → List InputsRefusal → Type 0
IsFirst (Ok inputs) faults = faults ≡ []
IsFirst (Err refusal) faults = (more : List InputsRefusal) × (faults ≡ refusal ∷ more)

abbrev pub FirstFault : Type 0
FirstFault = (bytes : List ℕ) → IsFirst (read_inputs bytes) (faults_of bytes)

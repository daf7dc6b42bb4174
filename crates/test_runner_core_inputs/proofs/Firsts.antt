-- The laws, from what each form keeps.
use Rattle.std.proofs.Common.{◌≡◌, ◌↔◌, ℕ, ◌∷◌, [], List, map, Option, None, Some, Result, Ok, Err, refl, ap, ◌∙◌}
use Rattle.std.specs.Option.{option_map_or}
use Rattle.serde_json.specs.Data.{Data}
use Rattle.test_runner_core_inputs.specs.Given.{value_of}
use Rattle.test_runner_core_inputs.specs.Reading.{Path, Reading, dotted_path, inputs_of, refused_at, read_inputs}
use Rattle.test_runner_core_inputs.specs.Shape.{IsInputs, AreInputs}
use Rattle.test_runner_core_inputs.specs.Faults.{Faults, inputs_faults, faults_of}
use Rattle.test_runner_core_inputs.specs.Laws.{IsFirst}
use Rattle.test_runner_core_inputs.specs.declared.inputs.Inputs.{Inputs}
use Rattle.test_runner_core_inputs.specs.declared.inputs_error.InputsRefusal.{InputsRefusal}
use Rattle.test_runner_core_inputs.specs.declared.inputs_error.InputsRefusal.TheVariants as errors
use Rattle.test_runner_core_inputs.proofs.Meets.{Meets}
use Rattle.test_runner_core_inputs.proofs.FitsInputs.{inputs_fit}

-- what was read of a value that bytes are, or are not
abbrev read_of : Option Data → Result Inputs InputsRefusal
read_of found = option_map_or (λ given. refused_at (inputs_of given)) found (Err errors.Syntax)

read_ok : (read : Reading Inputs) (inputs : Inputs) → refused_at read ≡ Ok inputs → read ≡ Ok inputs
read_ok (Ok x) inputs e = let f : Ok x ≡ Ok inputs = e in let g : x ≡ inputs = cc in ap Ok g
read_ok (Err path) inputs e = absurd (cc)

shape_there : (found : Option Data) (inputs : Inputs) → read_of found ≡ Ok inputs → (given : Data) × (found ≡ Some given) × IsInputs given inputs
shape_there None inputs e = absurd (cc)
shape_there (Some given) inputs e = (given, refl, ((inputs_fit given).ok inputs (read_ok (inputs_of given) inputs e)).1)

-- bytes are read exactly if they have the shape
pub accepted : (bytes : List ℕ) (inputs : Inputs) → (read_inputs bytes ≡ Ok inputs) ↔ AreInputs bytes inputs
accepted bytes inputs = (
  λ e. let s = shape_there (value_of bytes) inputs e in record { given = s.0; json = s.1; shape = s.2 },
  λ s. ap read_of s.json ∙ ap refused_at ((inputs_fit s.given).back inputs s.shape),
)

abbrev told : Path → InputsRefusal
told path = errors.Field (dotted_path path)

first_told : (read : Reading Inputs) (faults : Faults) (S : Inputs → Type 0) → Meets read faults S → IsFirst (refused_at read) (map told faults)
first_told (Ok inputs) faults S m = ap (map told) (m.ok inputs refl).0
first_told (Err path) faults S m = let h = m.err path refl in (map told h.0, ap (map told) h.1)

first_of : (found : Option Data) → IsFirst (read_of found) (option_map_or (λ given. map told (inputs_faults given)) found (errors.Syntax ∷ []))
first_of None = ([], refl)
first_of (Some given) = first_told (inputs_of given) (inputs_faults given) (IsInputs given) (inputs_fit given)

-- a refusal is the first fault
pub first : (bytes : List ℕ) → IsFirst (read_inputs bytes) (faults_of bytes)
first bytes = first_of (value_of bytes)

-- A report as a list of its parts.
use Rattle.std.specs.Prelude.{◌≡◌, ℕ, List, [], ◌∷◌, ◌++◌}
use Rattle.test_runner_core_report_lines.specs.Report.{IsDone, IsShown}
use Rattle.test_runner_core_report_lines.specs.Texts.{NamedTest}
use Rattle.test_runner_core_report_lines.specs.declared.shows.Shows.{Shows}

-- what is written as a test finishes, a test's part in the final text, or words
pub data Part : Type 0 where
  Done : Shows → NamedTest → Part
  Shown : Shows → NamedTest → Part
  Said : List ℕ → Part

-- a text of a part
abbrev pub IsPart : Part → List ℕ → Type 0
IsPart (Done shows test) text = IsDone shows test text
IsPart (Shown shows test) text = IsShown shows test text
IsPart (Said words) text = text ≡ words

-- a text of parts, one behind another
abbrev pub IsTextOf : List Part → List ℕ → Type 0
IsTextOf [] text = text ≡ []
IsTextOf (part ∷ parts) text = (first : List ℕ) × ((rest : List ℕ) × (IsPart part first × IsTextOf parts rest × (text ≡ first ++ rest)))

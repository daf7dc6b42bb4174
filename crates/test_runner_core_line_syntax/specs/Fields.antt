-- The fields of a line, and what reading a part of it gives.
use Rattle.std.specs.Prelude.{ℕ, ◌==◌, List, Option, Some, None}
use Rattle.std.specs.List.{slice_split}

-- what stands before, between and after the tabs
abbrev pub fields_of : List ℕ → List (List ℕ)
fields_of bytes = slice_split (λ byte. byte == 9) bytes

-- what is read means something that is spelled so, and nothing is read only where nothing is
-- spelled so
abbrev pub Reads : {X Y : Type 0} → (X → Y) → (Y → Type 0) → Option X → Type 0
Reads meant IsSpelled (Some found) = IsSpelled (meant found)
Reads {X} {Y} meant IsSpelled None = (other : Y) → IsSpelled other → ⊥

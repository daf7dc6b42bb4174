-- What writing to a text leaves.
use Rattle.std.specs.Prelude.{◌≡◌, ℕ, List, ◌++◌, Result, Ok, Err, take}

-- the old text stands in front of the new one
pub record Extends (old new : List ℕ) : Type 0 where
  pub more : List ℕ
  pub grown : new ≡ old ++ more

-- such a text was added to the old one
abbrev pub Adds : (List ℕ → Type 0) → List ℕ → List ℕ → Type 0
Adds IsAdded old new = (text : List ℕ) × IsAdded text × (new ≡ old ++ text)

-- what is kept of a text to which something was added: all of it, or where that failed so many
-- bytes
abbrev pub kept_by : {T E : Type 0} → Result T E → ℕ → List ℕ → List ℕ
kept_by (Ok value) length text = text
kept_by (Err fault) length text = take length text

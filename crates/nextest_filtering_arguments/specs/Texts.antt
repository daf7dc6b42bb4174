-- What reading a text as an argument gives, faults and all.
use Rattle.std.specs.Prelude.{◌≡◌, ◌≢◌, ℕ, ◌≤◌, List, [], ◌∷◌, ◌++◌, length}
use Rattle.nextest_filtering_escapes.specs.Text.{IsText}
use Rattle.nextest_filtering_escapes.specs.Ends.{Stops, IsUnended, IsEnded}
use Rattle.nextest_filtering_ast.specs.Grammar.{after_blanks, Behind, Spells}
use Rattle.nextest_filtering_ast.specs.declared.leaf.SourceSpan.{SourceSpan}
use Rattle.nextest_filtering_arguments.specs.Blanks.{AreBlanks, HasBareEnd}
use Rattle.nextest_filtering_arguments.specs.Faults.{IsSuffix, here}

-- those bytes stand at the text's front, up to its first `)` or `,` that isn't escaped, or to its
-- end
abbrev pub IsFront : List ℕ → List ℕ → Type 0
IsFront front text = (rest : List ℕ) × (text ≡ front ++ rest) × IsUnended front × IsEnded front rest

-- the span holds what comes next in a rest of the input up to where the text goes on, without the
-- blanks around it
abbrev pub IsPlaced : List ℕ → List ℕ → List ℕ → SourceSpan → Type 0
IsPlaced input text rest span = (raw blanks : List ℕ) × (after_blanks text ≡ raw ++ (blanks ++ rest)) × HasBareEnd raw × AreBlanks blanks
    × (span ≡ here input (after_blanks text) (length raw))

-- Bytes, blanks at the end included, were looked at for bad escapes: where they stand for no text,
-- a fault was added.
pub record IsLookedAt (whole : List ℕ) (old new : ℕ) : Type 0 where
  pub more : old ≤ new
  pub good : new ≡ old → IsUnended whole → (text : List ℕ) × IsText whole text

-- Bytes were read as a text: they stand for what was found just where no fault was added.
pub record IsMeant (raw : List ℕ) (old new : ℕ) (found : List ℕ) : Type 0 where
  pub more : old ≤ new
  pub reads : new ≡ old → (raw ≢ []) × IsText raw found
  pub only : (other : List ℕ) → raw ≢ [] → IsText raw other → (new ≡ old) × (other ≡ found)

-- A text was read, as found and rest. It stands there where no fault was added; and where any text
-- stands there, blanks around it, with a `)` behind, then this is the one, and no fault was added.
pub record IsTextArgument (text : List ℕ) (old new : ℕ) (found rest : List ℕ) : Type 0 where
  pub more : old ≤ new
  pub behind : IsSuffix rest text
  pub stops : Stops rest
  pub reads : new ≡ old → (raw end : List ℕ) × Behind raw text end × Spells raw found × (after_blanks end ≡ rest)
  pub only : (raw other end x : List ℕ) → Behind raw text end → Spells raw other → after_blanks end ≡ 41 ∷ x → (new ≡ old) × (other ≡ found) × (after_blanks end ≡ rest)

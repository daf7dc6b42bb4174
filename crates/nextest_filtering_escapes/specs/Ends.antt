-- Where a text with escapes ends.
use Rattle.std.specs.Prelude.{◌≡◌, ℕ, ◌==◌, Bool, true, false, ◌&&◌, not, List, [], ◌∷◌, ◌++◌, ⊤}
use Rattle.nextest_filtering_escapes.specs.Text.{IsText, is_end}

-- nothing follows, or a `)` or a `,`
abbrev pub Stops : List ℕ → Type 0
Stops [] = ⊤
Stops (byte ∷ rest) = is_end byte ≡ true

-- a reading from the left reaches no `)` or `,` that isn't escaped; the first byte is escaped where
-- a `\` came before it
abbrev pub is_unended : Bool → List ℕ → Bool
is_unended escaped [] = true
is_unended true (byte ∷ rest) = is_unended false rest
is_unended false (byte ∷ rest) = not (is_end byte) && is_unended (byte == 92) rest

-- the bytes hold no end of a text
abbrev pub IsUnended : List ℕ → Type 0
IsUnended raw = is_unended false raw ≡ true

-- nothing follows the bytes, or a `)` or a `,` that no `\` of theirs escapes
abbrev pub IsEnded : List ℕ → List ℕ → Type 0
IsEnded raw [] = ⊤
IsEnded raw (byte ∷ rest) = is_unended false (raw ++ byte ∷ []) ≡ false

-- whatever is a text in front with an end behind it is this front, and what follows it this rest
abbrev pub IsOnlyText : List ℕ → List ℕ → List ℕ → Type 0
IsOnlyText input front behind = (raw text rest : List ℕ) → IsText raw text → Stops rest → input ≡ raw ++ rest → (raw ≡ front) × (rest ≡ behind)

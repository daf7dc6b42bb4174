-- Blanks at the start of a text and at its end.
use Rattle.std.specs.Prelude.{◌≡◌, ℕ, Bool, true, false, List, [], ◌∷◌, ◌++◌}
use Rattle.std.specs.List.{AllByRecursion}
use Rattle.nextest_filtering_escapes.specs.Text.{is_blank}

-- the first byte is a blank
abbrev pub has_blank_front : List ℕ → Bool
has_blank_front [] = false
has_blank_front (byte ∷ rest) = is_blank byte

-- all bytes are blanks
abbrev pub AreBlanks : List ℕ → Type 0
AreBlanks = AllByRecursion (λ byte. is_blank byte ≡ true)

-- the last byte, where there is one, is no blank
abbrev pub HasBareEnd : List ℕ → Type 0
HasBareEnd text = (front : List ℕ) (byte : ℕ) → text ≡ front ++ byte ∷ [] → is_blank byte ≡ false

-- the last byte is a blank, behind front
abbrev pub EndsBlank : List ℕ → List ℕ → Type 0
EndsBlank text front = (byte : ℕ) × (is_blank byte ≡ true) × (text ≡ front ++ byte ∷ [])

-- front is the text without the blanks at its end
abbrev pub IsTrimmed : List ℕ → List ℕ → Type 0
IsTrimmed text front = HasBareEnd front × ((blanks : List ℕ) × AreBlanks blanks × (text ≡ front ++ blanks))

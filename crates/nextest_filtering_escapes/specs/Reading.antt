-- What reading one escape gives.
use Rattle.std.specs.Prelude.{◌≡◌, ℕ, ◌<◌, ◌≤◌, List, [], ◌∷◌, ◌++◌, length, Option, Some, None, encode_utf8}
use Rattle.std.specs.Borrow.{Bor}
use Rattle.std.specs.Char.{IsScalar}
use Rattle.std.specs.Str.Parse.{AllDigits}
use Rattle.nextest_filtering_escapes.specs.Text.{Piece, IsPiece, IsHexadecimal, spelling, meaning}
use Rattle.nextest_filtering_escapes.specs.Spans.{IsBadEscape}

-- one to six hexadecimal digits
abbrev pub IsShortHexadecimal : List ℕ → Type 0
IsShortHexadecimal digits = (0 < length digits) × (length digits ≤ 6) × AllDigits 16 digits

-- what stands between braces in front and what follows them, which are all that digits in braces
-- and what follows can be
abbrev pub SplitsBraces : List ℕ → Option (Bor (List ℕ) × Bor (List ℕ)) → Type 0
SplitsBraces bytes (Some x) = (bytes ≡ 123 ∷ x.0.now ++ 125 ∷ x.1.now)
    × ((digits rest : List ℕ) → AllDigits 16 digits → bytes ≡ 123 ∷ digits ++ 125 ∷ rest → (digits ≡ x.0.now) × (rest ≡ x.1.now))
SplitsBraces bytes None = (digits rest : List ℕ) → AllDigits 16 digits → bytes ≡ 123 ∷ digits ++ 125 ∷ rest → ⊥

-- the bytes begin with the scalar value's digits in braces, and rest follows
abbrev pub BeginsInBraces : List ℕ → ℕ → List ℕ → Type 0
BeginsInBraces bytes scalar rest = (digits : List ℕ) × IsHexadecimal digits scalar × IsScalar scalar × (bytes ≡ 123 ∷ digits ++ 125 ∷ rest)

-- the scalar value in braces and what follows it, or that the bytes don't begin so
abbrev pub ReadsUnicode : List ℕ → Option (ℕ × Bor (List ℕ)) → Type 0
ReadsUnicode bytes (Some x) = BeginsInBraces bytes x.0 x.1.now
ReadsUnicode bytes None = (scalar : ℕ) (rest : List ℕ) → BeginsInBraces bytes scalar rest → ⊥

-- the first character and what follows it, or that there is none
abbrev pub SplitsFirst : List ℕ → Option (ℕ × Bor (List ℕ)) → Type 0
SplitsFirst bytes (Some x) = IsScalar x.0 × (bytes ≡ encode_utf8 x.0 ++ x.1.now)
SplitsFirst bytes None = bytes ≡ []

-- some piece stands for the character, or the bytes begin with no piece, and with a bad escape
abbrev pub ReadsEscape : List ℕ → Option ℕ → List ℕ → Type 0
ReadsEscape behind (Some character) ahead = (piece : Piece) × IsPiece piece × (92 ∷ behind ≡ spelling piece ++ ahead) × (meaning piece ≡ encode_utf8 character)
ReadsEscape behind None ahead = ((piece : Piece) (rest : List ℕ) → IsPiece piece → 92 ∷ behind ≡ spelling piece ++ rest → ⊥)
    × ((bytes : List ℕ) × (92 ∷ behind ≡ bytes ++ ahead) × IsBadEscape bytes ahead)

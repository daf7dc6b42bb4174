-- The bytes that stand in hex in a line.
use Rattle.std.specs.Prelude.{◌≡◌, ◌<◌, ℕ, List, [], ◌∷◌, Option, Some, None, slice_index}
use Rattle.std.specs.Result.{result_unwrap_or}
use Rattle.hex.specs.Hex.{decode_of, encode_lower, lower_digits}
use Rattle.test_runner_core_line_syntax.specs.Spelling.{SpellsHex}

-- the bytes that digits mean; none where they aren't hex
abbrev pub bytes_of_hex : List ℕ → List ℕ
bytes_of_hex digits = result_unwrap_or (decode_of digits) []

-- some bytes are spelled so
abbrev pub IsHex : List ℕ → Type 0
IsHex digits = (bytes : List ℕ) × SpellsHex bytes digits

-- what a lower-case digit stands for, or none where it is no such digit
abbrev pub SpellsDigit : ℕ → Option ℕ → Type 0
SpellsDigit digit (Some value) = (value < 16) × (slice_index lower_digits value ≡ digit)
SpellsDigit digit None = (value : ℕ) → value < 16 → slice_index lower_digits value ≡ digit → ⊥

-- it is a lower-case digit
abbrev pub IsDigit : ℕ → Type 0
IsDigit digit = (value : ℕ) × (value < 16) × (slice_index lower_digits value ≡ digit)

-- the byte that two digits spell, or none where they spell none
abbrev pub SpellsByte : ℕ → ℕ → Option ℕ → Type 0
SpellsByte high low (Some byte) = (byte < 256) × (encode_lower (byte ∷ []) ≡ high ∷ low ∷ [])
SpellsByte high low None = (byte : ℕ) → byte < 256 → encode_lower (byte ∷ []) ≡ high ∷ low ∷ [] → ⊥

-- What a text with escapes stands for.
use Rattle.std.specs.Prelude.{◌≡◌, ℕ, ◌<◌, ◌≤◌, ◌==◌, Bool, true, ◌&&◌, ◌||◌, not, List, [], ◌∷◌, ◌++◌, length, Option, Some, None, if◌then◌else◌, encode_utf8}
use Rattle.std.specs.Char.{IsScalar}
use Rattle.std.specs.List.{AllByRecursion, flat_map}
use Rattle.std.specs.Str.Parse.{AllDigits, digits_value}

-- space, tab, line feed, carriage return
abbrev pub is_blank : ℕ → Bool
is_blank byte = byte == 32 || byte == 9 || byte == 10 || byte == 13

-- `)` and `,` end a text
abbrev pub is_end : ℕ → Bool
is_end byte = byte == 41 || byte == 44

-- a byte that stands for itself: no `\`, `)` or `,`
abbrev pub is_plain : ℕ → Bool
is_plain byte = not (byte == 92) && not (is_end byte)

-- the byte that a letter stands for behind a `\`: `n`, `r`, `t`, `b`, `f`, and `\`, `/`, `)` and
-- `,` for themselves
abbrev pub escape_of : ℕ → Option ℕ
escape_of letter =
    if letter == 110 then Some 10
    else if letter == 114 then Some 13
    else if letter == 116 then Some 9
    else if letter == 98 then Some 8
    else if letter == 102 then Some 12
    else if letter == 92 then Some 92
    else if letter == 47 then Some 47
    else if letter == 41 then Some 41
    else if letter == 44 then Some 44
    else None

-- a piece of a text: a byte that stands for itself, `\` and a letter, or `\u{digits}`
pub data Piece : Type 0 where
  Plain : ℕ → Piece
  Escaped : ℕ → ℕ → Piece
  Unicode : List ℕ → ℕ → Piece

-- one to six hexadecimal digits of that number
abbrev pub IsHexadecimal : List ℕ → ℕ → Type 0
IsHexadecimal digits number = (0 < length digits) × (length digits ≤ 6) × AllDigits 16 digits × (number ≡ digits_value 16 digits)

-- the letter has that meaning, the digits are those of that scalar value
abbrev pub IsPiece : Piece → Type 0
IsPiece (Plain byte) = is_plain byte ≡ true
IsPiece (Escaped letter meant) = escape_of letter ≡ Some meant
IsPiece (Unicode digits scalar) = IsHexadecimal digits scalar × IsScalar scalar

-- how a piece stands in the argument
abbrev pub spelling : Piece → List ℕ
spelling (Plain byte) = byte ∷ []
spelling (Escaped letter meant) = 92 ∷ letter ∷ []
spelling (Unicode digits scalar) = 92 ∷ 117 ∷ 123 ∷ digits ++ 125 ∷ []

-- the bytes that a piece stands for
abbrev pub meaning : Piece → List ℕ
meaning (Plain byte) = byte ∷ []
meaning (Escaped letter meant) = meant ∷ []
meaning (Unicode digits scalar) = encode_utf8 scalar

-- the bytes raw are pieces, which stand for text
pub record IsText (raw text : List ℕ) : Type 0 where
  pub pieces : List Piece
  pub each : AllByRecursion IsPiece pieces
  pub spelled : raw ≡ flat_map spelling pieces
  pub meant : text ≡ flat_map meaning pieces

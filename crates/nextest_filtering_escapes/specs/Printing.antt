-- How a text and a regular expression print.
use Rattle.std.specs.Prelude.{ℕ, ◌==◌, ◌||◌, false, List, [], ◌∷◌, ◌++◌, Option, Some, None, if◌then◌else◌, nat_lt, encode_utf8}
use Rattle.std.specs.Fmt.{digits}
use Rattle.std.specs.List.{flat_map}
use Rattle.std.specs.Option.{option_map_or}
use Rattle.nextest_filtering_escapes.specs.Text.{is_end}

-- `\u{h}`, h the number's hexadecimal digits
abbrev pub by_number : ℕ → List ℕ
by_number byte = 92 ∷ 117 ∷ 123 ∷ digits 16 false byte ++ 125 ∷ []

-- the letter behind a `\` that a byte prints as, where it prints so
abbrev pub letter_of : ℕ → Option ℕ
letter_of byte =
    if byte == 92 || byte == 47 || is_end byte then Some byte
    else if byte == 10 then Some 110
    else if byte == 13 then Some 114
    else if byte == 9 then Some 116
    else None

-- a byte inside a text: with a `\` and a letter, or by its number where it controls, or as it is
abbrev pub text_of_byte : ℕ → List ℕ
text_of_byte byte =
    option_map_or (λ letter. 92 ∷ letter ∷ []) (letter_of byte) (if nat_lt byte 32 || byte == 127 then by_number byte else byte ∷ [])

-- a character inside a text
abbrev pub printed_character : ℕ → List ℕ
printed_character character = if nat_lt character 128 then text_of_byte character else encode_utf8 character

-- bytes of a text up to its end, where a space prints by its number
abbrev pub escaped_behind : List ℕ → List ℕ
escaped_behind [] = []
escaped_behind (byte ∷ []) = if byte == 32 then by_number 32 else text_of_byte byte
escaped_behind (byte ∷ next ∷ rest) = text_of_byte byte ++ escaped_behind (next ∷ rest)

-- how a text prints: a space at its front by its number too
abbrev pub text_with_escapes : List ℕ → List ℕ
text_with_escapes [] = []
text_with_escapes (byte ∷ rest) = if byte == 32 then by_number 32 ++ escaped_behind rest else escaped_behind (byte ∷ rest)

-- a byte of a regular expression: a `/` gets a `\` before it
abbrev pub slashed_byte : ℕ → List ℕ
slashed_byte byte = if byte == 47 then 92 ∷ 47 ∷ [] else byte ∷ []

-- how a regular expression prints
abbrev pub regex_text_of : List ℕ → List ℕ
regex_text_of text = flat_map slashed_byte text

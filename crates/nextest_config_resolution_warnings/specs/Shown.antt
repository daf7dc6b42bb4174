-- How a text of a configuration prints in a warning.
use Rattle.std.specs.Prelude.{ℕ, ◌==◌, ◌||◌, false, List, [], ◌∷◌, ◌++◌, chars, encode_utf8, map, nat_lt, if◌then◌else◌}
use Rattle.std.specs.Fmt.{digits}
use Rattle.std.specs.List.{flat_map, join_with_byte}

-- a character: one below a space, and the one behind `~`, prints as `\u{h}`, h its number in
-- hexadecimal digits
abbrev pub shown_character : ℕ → List ℕ
shown_character character =
    if nat_lt character 32 || character == 127 then 92 ∷ 117 ∷ 123 ∷ digits 16 false character ++ 125 ∷ []
    else encode_utf8 character

-- a text, on one line
abbrev pub one_line_of : List ℕ → List ℕ
one_line_of text = flat_map shown_character (chars text)

-- the keys of a path, with a dot between two of them
abbrev pub shown_keys : List (List ℕ) → List ℕ
shown_keys keys = join_with_byte 46 (map one_line_of keys)

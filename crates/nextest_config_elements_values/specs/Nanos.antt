-- The nanoseconds of a text.
use Rattle.std.specs.Prelude.{ℕ, zero, suc, ◌+◌, ◌*◌, ◌^◌, List, [], ◌∷◌, length, Option, Some, None, option_map, option_and_then, nat_lt, if◌then◌else◌}
use Rattle.std.specs.Char.{is_ascii_alphabetic, is_ascii_digit}
use Rattle.std.specs.Str.Parse.{digits_value}
use Rattle.nextest_config_elements_values.specs.Ahead.{run, behind, from_word, behind_part, is_zero}
use Rattle.nextest_config_elements_values.specs.Duration.{is_blank, unit_nanos}

-- the nanoseconds of a number with the unit that a word names; no digits are no number
abbrev pub nanos_of_part : List ℕ → List ℕ → Option ℕ
nanos_of_part [] word = None
nanos_of_part (digit ∷ digits) word = option_map (λ unit. digits_value 10 (digit ∷ digits) * unit) (unit_nanos word)

-- the nanoseconds of the part that stands first in a text
abbrev pub first_nanos : List ℕ → Option ℕ
first_nanos text = nanos_of_part (run is_ascii_digit text) (run is_ascii_alphabetic (from_word text))

-- the nanoseconds that the parts add up to which a text is, of no more than so many parts
abbrev pub sum_in : ℕ → List ℕ → Option ℕ
sum_in most [] = Some 0
sum_in zero (first ∷ further) = None
sum_in (suc most) (first ∷ further) =
    option_and_then (λ nanos. option_map (λ more. nanos + more) (sum_in most (behind_part (first ∷ further)))) (first_nanos (first ∷ further))

-- a number that fits 64 bits
abbrev pub fitting : ℕ → Option ℕ
fitting nanos = if nat_lt nanos (2 ^ 64) then Some nanos else None

-- the nanoseconds of one part or more
abbrev pub parts_in : List ℕ → Option ℕ
parts_in [] = None
parts_in (first ∷ further) = option_and_then fitting (sum_in (length (first ∷ further)) (first ∷ further))

-- the nanoseconds of what follows the blanks at the start of a text
abbrev pub nanos_ahead : List ℕ → Option ℕ
nanos_ahead rest = if is_zero rest then Some 0 else parts_in rest

-- the nanoseconds of a text that is a duration
abbrev pub nanos_in : List ℕ → Option ℕ
nanos_in text = nanos_ahead (behind is_blank text)

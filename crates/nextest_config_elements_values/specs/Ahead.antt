-- What stands at the start of a text.
use Rattle.std.specs.Prelude.{◌≡◌, ℕ, ◌*◌, ◌==◌, Bool, false, ◌&&◌, List, [], ◌∷◌, length, ◌<◌, Some, drop, not, sum_by}
use Rattle.std.specs.Char.{is_ascii_alphabetic, is_ascii_digit}
use Rattle.std.specs.List.{AllByRecursion, flat_map, list_all, before_first, position_or_len}
use Rattle.std.specs.Str.Parse.{digits_value}
use Rattle.nextest_config_elements_values.specs.Duration.{is_blank, unit_nanos, Part, IsPart, text_of_part, nanos_of}

-- the longest run of bytes that pass at the start of a text
abbrev pub run : (ℕ → Bool) → List ℕ → List ℕ
run test text = before_first (λ byte. not (test byte)) text

-- what follows that run
abbrev pub behind : (ℕ → Bool) → List ℕ → List ℕ
behind test text = drop (position_or_len (λ byte. not (test byte)) text) text

-- the text from the word on that stands behind the digits at its start and their blanks
abbrev pub from_word : List ℕ → List ℕ
from_word text = behind is_blank (behind is_ascii_digit text)

-- what follows the digits at the start of a text, their blanks, a word and its blanks
abbrev pub behind_part : List ℕ → List ℕ
behind_part text = behind is_blank (behind is_ascii_alphabetic (from_word text))

-- a text starts with digits, blanks and the word of a unit, of that many nanoseconds
pub record StartsWith (text : List ℕ) (nanos : ℕ) : Type 0 where
  pub unit : ℕ
  pub some : 0 < length (run is_ascii_digit text)
  pub named : unit_nanos (run is_ascii_alphabetic (from_word text)) ≡ Some unit
  pub value : nanos ≡ digits_value 10 (run is_ascii_digit text) * unit

-- a text is parts, which add up to nanoseconds
pub record Reads (text : List ℕ) (nanos : ℕ) : Type 0 where
  pub parts : List Part
  pub each : AllByRecursion IsPart parts
  pub whole : text ≡ flat_map text_of_part parts
  pub adds_up : nanos ≡ sum_by nanos_of parts

-- a text is `0` and blanks
abbrev pub is_zero : List ℕ → Bool
is_zero [] = false
is_zero (first ∷ further) = first == 48 && list_all is_blank further

-- Which texts are durations, and which.
use Rattle.std.specs.Prelude.{◌≡◌, ℕ, ◌*◌, ◌^◌, ◌<◌, ◌==◌, ◌⊎◌, Bool, true, ◌||◌, List, [], ◌∷◌, ◌++◌, length, Option, Some, None, if◌then◌else◌, codes, nat_eq, sum_by}
use Rattle.std.specs.Cmp.Lexicographic.{pointwise}
use Rattle.std.specs.List.{AllByRecursion, flat_map, list_all, list_any}
use Rattle.std.specs.Str.Parse.{IsNumeral, digits_value}

-- space, tab, line feed, carriage return
abbrev pub is_blank : ℕ → Bool
is_blank byte = byte == 32 || byte == 9 || byte == 10 || byte == 13

-- blanks and nothing else
abbrev pub AreBlanks : List ℕ → Type 0
AreBlanks bytes = list_all is_blank bytes ≡ true

-- a word is one of some names
abbrev pub is_among : List (List ℕ) → List ℕ → Bool
is_among names word = list_any (λ name. pointwise nat_eq name word) names

-- the words of each unit, and its nanoseconds
unfoldable pub units : List (List (List ℕ) × ℕ)
units =
    (codes "ns" ∷ codes "nsec" ∷ codes "nanos" ∷ [], 1) ∷
    (codes "us" ∷ codes "usec" ∷ [], 1_000) ∷
    (codes "ms" ∷ codes "msec" ∷ codes "millis" ∷ [], 1_000_000) ∷
    (codes "s" ∷ codes "sec" ∷ codes "secs" ∷ codes "second" ∷ codes "seconds" ∷ [], 1_000_000_000) ∷
    (codes "m" ∷ codes "min" ∷ codes "mins" ∷ codes "minute" ∷ codes "minutes" ∷ [], 60_000_000_000) ∷
    (codes "h" ∷ codes "hr" ∷ codes "hrs" ∷ codes "hour" ∷ codes "hours" ∷ [], 3_600_000_000_000) ∷
    (codes "d" ∷ codes "day" ∷ codes "days" ∷ [], 86_400_000_000_000) ∷
    (codes "w" ∷ codes "wk" ∷ codes "wks" ∷ codes "week" ∷ codes "weeks" ∷ [], 604_800_000_000_000) ∷
    (codes "M" ∷ codes "month" ∷ codes "months" ∷ [], 2_630_016_000_000_000) ∷
    (codes "y" ∷ codes "yr" ∷ codes "yrs" ∷ codes "year" ∷ codes "years" ∷ [], 31_557_600_000_000_000) ∷
    []

-- the number beside the first names of a table that a word is among
abbrev pub look_up : List (List (List ℕ) × ℕ) → List ℕ → Option ℕ
look_up [] word = None
look_up (row ∷ further) word = if is_among row.0 word then Some row.1 else look_up further word

-- the nanoseconds of the unit that a word names
abbrev pub unit_nanos : List ℕ → Option ℕ
unit_nanos word = look_up units word

-- a part of a duration: the digits of its number, the blanks behind them, the word of its unit, the
-- blanks behind it, and the nanoseconds of its unit
pub record Part : Type 0 where
  pub digits : List ℕ
  pub gap : List ℕ
  pub word : List ℕ
  pub blanks : List ℕ
  pub unit : ℕ

-- how a part is written
abbrev pub text_of_part : Part → List ℕ
text_of_part part = part.digits ++ (part.gap ++ (part.word ++ part.blanks))

-- one digit or more, blanks, the word of that unit, blanks
pub record IsPart (part : Part) : Type 0 where
  pub number : IsNumeral 10 part.digits
  pub blank_gap : AreBlanks part.gap
  pub named : unit_nanos part.word ≡ Some part.unit
  pub blank_behind : AreBlanks part.blanks

-- the nanoseconds of a part
abbrev pub nanos_of : Part → ℕ
nanos_of part = digits_value 10 part.digits * part.unit

-- a text is `0` with blanks around it
pub record IsZero (text : List ℕ) (nanos : ℕ) : Type 0 where
  pub before : List ℕ
  pub after : List ℕ
  pub blank_before : AreBlanks before
  pub blank_after : AreBlanks after
  pub whole : text ≡ before ++ 48 ∷ after
  pub none : nanos ≡ 0

-- a text is blanks and one part or more, which add up to nanoseconds that fit 64 bits
pub record IsSum (text : List ℕ) (nanos : ℕ) : Type 0 where
  pub before : List ℕ
  pub parts : List Part
  pub blank_before : AreBlanks before
  pub some : 0 < length parts
  pub each : AllByRecursion IsPart parts
  pub whole : text ≡ before ++ flat_map text_of_part parts
  pub adds_up : nanos ≡ sum_by nanos_of parts
  pub fits : nanos < 2 ^ 64

-- a text is a duration of nanoseconds
abbrev pub IsDuration : List ℕ → ℕ → Type 0
IsDuration text nanos = IsZero text nanos ⊎ IsSum text nanos

-- When failing tests stop a run.
use Rattle.std.specs.Prelude.{◌≡◌, ℕ, ◌<◌, ◌^◌, ◌⊎◌, ⊤, Bool, true, false, List, ◌∷◌, ◌++◌, Option, Some, None, nat_le, if◌then◌else◌, codes, decimal, map}
use Rattle.std.specs.Char.{to_ascii_lowercase}
use Rattle.std.specs.Str.Parse.{IsNumeral, digits_value, without_leading_plus}
use Rattle.nextest_config_elements_choices.specs.declared.max_fail.MaxFail.{MaxFail}
use Rattle.nextest_config_elements_choices.specs.declared.max_fail.MaxFail.TheVariants.{Count, All}
use Rattle.nextest_config_elements_choices.specs.declared.max_fail.TerminateMode.{TerminateMode}
use Rattle.nextest_config_elements_choices.specs.declared.max_fail.TerminateMode.TheVariants.{Wait, Immediate}

-- how a run stops whose failing tests weigh so much together, or nothing where it goes on
abbrev pub mode_at : MaxFail → ℕ → Option TerminateMode
mode_at (Count max_fail terminate) failed_weight =
    if nat_le max_fail failed_weight then Some terminate else None
mode_at All failed_weight = None

-- the limit of a run that fails fast, or doesn't
abbrev pub of_fail_fast : Bool → MaxFail
of_fail_fast true = Count 1 Wait
of_fail_fast false = All

-- the word for how a run stops
abbrev pub word_of : TerminateMode → List ℕ
word_of Wait = codes "wait"
word_of Immediate = codes "immediate"

-- a text is `all`, in letters of any case
abbrev pub IsAll : List ℕ → Type 0
IsAll text = map to_ascii_lowercase text ≡ codes "all"

-- a text is a number from 1 to 2^63 - 1 in decimal digits, leading zeros and a `+` allowed
pub record IsCount (text : List ℕ) (number : ℕ) : Type 0 where
  pub numeral : IsNumeral 10 (without_leading_plus text)
  pub value : number ≡ digits_value 10 (without_leading_plus text)
  pub some : 0 < number
  pub bounded : number < 2 ^ 63

-- a text is a number, `:` and how the run stops, or a number alone, where it waits
abbrev pub IsLimit : List ℕ → ℕ → TerminateMode → Type 0
IsLimit text number mode =
    ((digits : List ℕ) × IsCount digits number × (text ≡ digits ++ (58 ∷ word_of mode)))
    ⊎ (IsCount text number × (mode ≡ Wait))

-- a text is a limit
abbrev pub IsMaxFail : List ℕ → MaxFail → Type 0
IsMaxFail text All = IsAll text
IsMaxFail text (Count number mode) = IsLimit text number mode

-- how a limit prints
abbrev pub text_of : MaxFail → List ℕ
text_of All = codes "all"
text_of (Count number Wait) = decimal number
text_of (Count number Immediate) = decimal number ++ codes ":immediate"

-- a limit may stand in an accepted configuration
abbrev pub IsAccepted : MaxFail → Type 0
IsAccepted All = ⊤
IsAccepted (Count number mode) = (0 < number) × (number < 2 ^ 63)

-- What a byte may be.
use Rattle.std.specs.Prelude.{ℕ, Bool}
use Rattle.std.specs.Char.{is_ascii_alphabetic, is_ascii_digit}
use Rattle.nextest_config_elements_values.specs.Duration.{is_blank}
use Rattle.nextest_config_elements_values.specs.declared.runs.Class.{Class}
use Rattle.nextest_config_elements_values.specs.declared.runs.Class.TheVariants.{Digit, Letter, Blank}

-- a byte is of a class
abbrev pub is_of : Class → ℕ → Bool
is_of Digit = is_ascii_digit
is_of Letter = is_ascii_alphabetic
is_of Blank = is_blank

-- How much a failing test weighs.
use Rattle.std.specs.Prelude.{ℕ, ◌-◌, ◌^◌, ◌<◌, ◌≤◌, ◌&&◌, min, nat_lt, nat_le, Result, Ok, Err, if◌then◌else◌}
use Rattle.nextest_config_elements_choices.specs.declared.fail_weight.FailWeightOutOfRange.{FailWeightOutOfRange}

-- a number is a weight: from 1 to 100
abbrev pub IsFailWeight : ℕ → Type 0
IsFailWeight number = (0 < number) × (number ≤ 100)

-- the weight that a number is, or the number that is none
abbrev pub fail_weight_of : ℕ → Result ℕ FailWeightOutOfRange
fail_weight_of number =
    if nat_lt 0 number && nat_le number 100 then Ok number else Err (record { number = number })

-- a sum of weights as a counter has it: at most the greatest number of the counter's type
abbrev pub capped : ℕ → ℕ
capped sum = min sum (2 ^ 64 - 1)

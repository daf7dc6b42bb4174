-- In which order tests run.
use Rattle.std.specs.Prelude.{ℤ, pos, neg_ℤ, ◌≤ℤ◌, int_le, ◌&&◌, Result, Ok, Err, if◌then◌else◌}
use Rattle.nextest_config_elements_values.specs.declared.priority.TestPriorityOutOfRange.{TestPriorityOutOfRange}

-- a number is a priority: from -100 to 100
abbrev pub IsPriority : ℤ → Type 0
IsPriority number = (neg_ℤ (pos 100) ≤ℤ number) × (number ≤ℤ pos 100)

-- the priority that a number is, or the number that is none
abbrev pub priority_of : ℤ → Result ℤ TestPriorityOutOfRange
priority_of number =
    if int_le (neg_ℤ (pos 100)) number && int_le number (pos 100) then Ok number
    else Err (record { priority = number })

-- The values that have no parts, and stand under more than one key.
use Rattle.std.specs.Prelude.{ℕ, ◌^◌, ◌==◌, Bool, pos, Option, None, Some, option_map, option_and_then, nat_lt, if◌then◌else◌}
use Rattle.toml.specs.Data.{Data, string, integer, boolean}
use Rattle.nextest_config_elements_values.specs.Nanos.{nanos_in}
use Rattle.nextest_config_elements_values.specs.declared.config_duration.ConfigDuration.{ConfigDuration}

-- a number of 32 bits
abbrev pub number_32 : Data → Option ℕ
number_32 (integer (pos number)) = if nat_lt number (2 ^ 32) then Some number else None
number_32 given = None

-- what is above 0
abbrev pub above_none : ℕ → Option ℕ
above_none number = if nat_lt 0 number then Some number else None

-- a number from 1 on
abbrev pub positive : Data → Option ℕ
positive (integer (pos number)) = above_none number
positive given = None

-- a number of 32 bits from 1 on
abbrev pub positive_32 : Data → Option ℕ
positive_32 given = option_and_then above_none (number_32 given)

-- a truth value
abbrev pub truth : Data → Option Bool
truth (boolean holds) = Some holds
truth given = None

-- a text that is a duration
abbrev pub duration : Data → Option ConfigDuration
duration (string text) = option_map (λ nanos. record { nanos = nanos }) (nanos_in text)
duration given = None

-- a duration that isn't none
abbrev pub above_zero : ConfigDuration → Option ConfigDuration
above_zero it = if it.nanos == 0 then None else Some it

-- a text that is a duration, and not none
abbrev pub positive_duration : Data → Option ConfigDuration
positive_duration given = option_and_then above_zero (duration given)

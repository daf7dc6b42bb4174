-- In which order tests run.
use Rattle.std.specs.Prelude.{ℤ, Option, None}
use Rattle.std.specs.Result.{result_ok}
use Rattle.toml.specs.Data.{Data, integer}
use Rattle.nextest_config_elements_values.specs.Priority.{priority_of}
use Rattle.nextest_config_elements_toml.specs.Reading.{Reading, leaf}

-- an integer that is a priority
abbrev pub priority : Data → Option ℤ
priority (integer number) = result_ok (priority_of number)
priority given = None

-- how a priority is read
abbrev pub test_priority_in : Data → Reading ℤ
test_priority_in = leaf priority

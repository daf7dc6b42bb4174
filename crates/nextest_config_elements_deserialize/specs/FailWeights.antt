-- How much a failing test weighs.
use Rattle.std.specs.Prelude.{ℕ, pos, Option, None}
use Rattle.std.specs.Result.{result_ok}
use Rattle.toml.specs.Data.{Data, integer}
use Rattle.nextest_config_elements_choices.specs.FailWeight.{fail_weight_of}
use Rattle.nextest_config_elements_toml.specs.Reading.{Reading, leaf}

-- an integer that is a weight
abbrev pub fail_weight : Data → Option ℕ
fail_weight (integer (pos number)) = result_ok (fail_weight_of number)
fail_weight given = None

-- how a weight is read
abbrev pub fail_weight_in : Data → Reading ℕ
fail_weight_in = leaf fail_weight

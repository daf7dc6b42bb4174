use Rattle.test_runner_core_platforms.proofs.Values.{has_value, one_value}
use Rattle.test_runner_core_platforms.proofs.laws.one_value.Goals as goal

pub returns : goal.returns
returns c = record { some = has_value; one = one_value }

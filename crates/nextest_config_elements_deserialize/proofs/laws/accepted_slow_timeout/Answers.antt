use Rattle.nextest_config_elements_deserialize.proofs.Slow.{accepted_slow_timeout}
use Rattle.nextest_config_elements_deserialize.proofs.laws.accepted_slow_timeout.Goals as goal

pub returns : goal.returns
returns c = accepted_slow_timeout

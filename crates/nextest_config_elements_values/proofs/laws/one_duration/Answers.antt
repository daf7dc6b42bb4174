use Rattle.nextest_config_elements_values.proofs.Meanings.{one_duration}
use Rattle.nextest_config_elements_values.proofs.laws.one_duration.Goals as goal

pub returns : goal.returns
returns c = one_duration

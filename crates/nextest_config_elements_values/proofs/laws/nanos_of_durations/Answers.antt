use Rattle.nextest_config_elements_values.proofs.Nanos.{nanos_of_durations}
use Rattle.nextest_config_elements_values.proofs.laws.nanos_of_durations.Goals as goal

pub returns : goal.returns
returns c = nanos_of_durations

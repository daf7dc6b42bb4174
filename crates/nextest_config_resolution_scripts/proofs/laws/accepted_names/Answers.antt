use Rattle.nextest_config_resolution_scripts.proofs.Accepting.{accepted_names}
use Rattle.nextest_config_resolution_scripts.proofs.laws.accepted_names.Goals as goal

pub returns : goal.returns
returns c = accepted_names

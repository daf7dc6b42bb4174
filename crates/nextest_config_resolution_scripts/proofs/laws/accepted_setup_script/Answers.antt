use Rattle.nextest_config_resolution_scripts.proofs.Accepting.{accepted_setup_script}
use Rattle.nextest_config_resolution_scripts.proofs.laws.accepted_setup_script.Goals as goal

pub returns : goal.returns
returns c = accepted_setup_script

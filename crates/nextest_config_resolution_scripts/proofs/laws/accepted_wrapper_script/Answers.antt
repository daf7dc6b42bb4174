use Rattle.nextest_config_resolution_scripts.proofs.Accepting.{accepted_wrapper_script}
use Rattle.nextest_config_resolution_scripts.proofs.laws.accepted_wrapper_script.Goals as goal

pub returns : goal.returns
returns c = accepted_wrapper_script

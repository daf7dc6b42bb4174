use Rattle.nextest_config_resolution_scripts.proofs.Accepting.{accepted_script_rule}
use Rattle.nextest_config_resolution_scripts.proofs.laws.accepted_script_rule.Goals as goal

pub returns : goal.returns
returns c = accepted_script_rule

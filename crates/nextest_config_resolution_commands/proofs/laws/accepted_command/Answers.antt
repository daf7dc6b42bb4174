use Rattle.nextest_config_resolution_commands.proofs.Accepting.{accepted_command}
use Rattle.nextest_config_resolution_commands.proofs.laws.accepted_command.Goals as goal

pub returns : goal.returns
returns c = accepted_command

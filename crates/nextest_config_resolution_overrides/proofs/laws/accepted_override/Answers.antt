use Rattle.nextest_config_resolution_overrides.proofs.Accepting.{accepted_override}
use Rattle.nextest_config_resolution_overrides.proofs.laws.accepted_override.Goals as goal

pub returns : goal.returns
returns c = accepted_override

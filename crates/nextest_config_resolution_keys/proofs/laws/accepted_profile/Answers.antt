use Rattle.nextest_config_resolution_keys.proofs.Accepting.{accepted_profile}
use Rattle.nextest_config_resolution_keys.proofs.laws.accepted_profile.Goals as goal

pub returns : goal.returns
returns c = accepted_profile

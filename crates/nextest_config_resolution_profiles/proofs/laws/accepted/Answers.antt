use Rattle.nextest_config_resolution_profiles.proofs.Inheriting.{both_accepted}
use Rattle.nextest_config_resolution_profiles.proofs.laws.accepted.Goals as goal

pub returns : goal.returns
returns c = both_accepted

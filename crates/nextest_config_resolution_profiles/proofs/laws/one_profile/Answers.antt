use Rattle.nextest_config_resolution_profiles.proofs.OneProfile.{one_chain_of}
use Rattle.nextest_config_resolution_profiles.proofs.laws.one_profile.Goals as goal

pub returns : goal.returns
returns c = one_chain_of

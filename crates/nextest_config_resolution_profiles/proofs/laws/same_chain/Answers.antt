use Rattle.nextest_config_resolution_profiles.proofs.SameChain.{same_chain}
use Rattle.nextest_config_resolution_profiles.proofs.laws.same_chain.Goals as goal

pub returns : goal.returns
returns c = same_chain

use Rattle.nextest_config_resolution_inheritance.proofs.Chains.{one_chain}
use Rattle.nextest_config_resolution_inheritance.proofs.laws.one_chain.Goals as goal

pub returns : goal.returns
returns c = one_chain

use Rattle.nextest_config_elements_deserialize.proofs.Policies.{accepted_policy}
use Rattle.nextest_config_elements_deserialize.proofs.laws.accepted_policy.Goals as goal

pub returns : goal.returns
returns c = accepted_policy

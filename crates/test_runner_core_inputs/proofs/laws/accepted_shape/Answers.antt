use Rattle.test_runner_core_inputs.proofs.Firsts.{accepted}
use Rattle.test_runner_core_inputs.proofs.laws.accepted_shape.Goals as goal

pub returns : goal.returns
returns c = accepted

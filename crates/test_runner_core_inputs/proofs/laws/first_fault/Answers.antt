use Rattle.test_runner_core_inputs.proofs.Firsts.{first}
use Rattle.test_runner_core_inputs.proofs.laws.first_fault.Goals as goal

pub returns : goal.returns
returns c = first

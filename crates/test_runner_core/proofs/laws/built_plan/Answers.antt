use Rattle.test_runner_core.proofs.Built.{built_is_plan}
use Rattle.test_runner_core.proofs.laws.built_plan.Goals as goal

pub returns : goal.returns
returns c = λ answer inputs plan built. built_is_plan answer inputs built.0 plan built.1 built.2

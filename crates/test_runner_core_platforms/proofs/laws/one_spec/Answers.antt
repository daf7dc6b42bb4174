use Rattle.test_runner_core_platforms.specs.Single.{one_spec}
use Rattle.test_runner_core_platforms.proofs.laws.one_spec.Goals as goal

pub returns : goal.returns
returns c = one_spec

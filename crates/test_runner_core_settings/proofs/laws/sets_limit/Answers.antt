use Rattle.test_runner_core_settings.proofs.Limits.{sets_limit}
use Rattle.test_runner_core_settings.proofs.laws.sets_limit.Goals as goal

pub returns : goal.returns
returns c = sets_limit

use Rattle.test_runner_core_settings.proofs.Once.{one_settings}
use Rattle.test_runner_core_settings.proofs.Some.{some_settings}
use Rattle.test_runner_core_settings.proofs.laws.one_settings.Goals as goal

pub returns : goal.returns
returns c = record { some = some_settings; one = one_settings }

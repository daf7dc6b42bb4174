use Rattle.test_runner_core_settings.proofs.Once.{one_test}
use Rattle.test_runner_core_settings.proofs.Some.{some_test}
use Rattle.test_runner_core_settings.proofs.laws.one_test.Goals as goal

pub returns : goal.returns
returns c = record { some = some_test; one = one_test }

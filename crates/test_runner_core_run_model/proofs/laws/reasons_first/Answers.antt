use Rattle.test_runner_core_run_model.proofs.Finishing.{keeps_reasons}
use Rattle.test_runner_core_run_model.proofs.laws.reasons_first.Goals as goal

pub returns : goal.returns
returns c = keeps_reasons

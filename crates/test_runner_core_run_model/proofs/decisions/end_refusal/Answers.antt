use Rattle.std.proofs.Common.{subst}
use Rattle.test_runner_core_run_model.specs.Decisions.{ShowsTest}
use Rattle.test_runner_core_run_model.proofs.Taken.{end_taken}
use Rattle.test_runner_core_run_model.proofs.decisions.end_refusal.Goals as goal

pub returns-in-Running : goal.returns-in-Running
returns-in-Running c = λ state place ending shown. end_taken state place ending (subst (ShowsTest state place) c.in-Running.is shown)

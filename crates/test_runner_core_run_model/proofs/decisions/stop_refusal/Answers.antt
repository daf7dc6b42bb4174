use Rattle.std.proofs.Common.{◌∙◌, sym}
use Rattle.test_runner_core_run_model.proofs.Taken.{stop_taken}
use Rattle.test_runner_core_run_model.proofs.decisions.stop_refusal.Goals as goal

pub returns-else-is_inner : goal.returns-else-is_inner
returns-else-is_inner c = λ state. stop_taken state c.args.reason (sym c.is_inner.ensures ∙ c.if-is_inner.false)

use Rattle.std.proofs.Common.{arith}
use Rattle.test_runner_core_run_model.proofs.Taken.{script_taken}
use Rattle.test_runner_core_run_model.proofs.script_order.script_refusal.Goals as goal

pub returns : goal.returns
returns c = λ state ending shows.
    script_taken state ending c.args.script c.args.planned c.args.ended c.args.is_stopped shows (omega arith) c.if-is_stopped.false (omega arith)

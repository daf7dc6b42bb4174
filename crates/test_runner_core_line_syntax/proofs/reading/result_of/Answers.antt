use Rattle.test_runner_core_line_syntax.proofs.Refusals.{no_result}
use Rattle.test_runner_core_line_syntax.proofs.reading.result_of.Goals as goal

pub returns-in_err-failure_status-in_default : goal.returns-in_err-failure_status-in_default
returns-in_err-failure_status-in_default c =
    let not = c.in_default in
    rw c.from_residual.ensures (
    no_result c.args.field.now not.not-pass not.not-text not.not-text-2 not.not-text-3 not.not-text-4 not.not-text-5
    (λ failure leaked spelled. c.in_err-failure_status-in_default.ensures (failure, leaked) spelled))

use Rattle.std.proofs.Common.{refl, sym, subst}
use Rattle.test_runner_core.specs.Report.{IsStatus, refused_inputs}
use Rattle.test_runner_core.proofs.Reported.{all_is_written, reports_front}
use Rattle.test_runner_core.proofs.Statuses.{of_inputs}
use Rattle.test_runner_core.proofs.whole_report.refuse_inputs.Goals as goal

pub returns-in_err-write_refused_inputs-clause-reports : goal.returns-in_err-write_refused_inputs-clause-reports
returns-in_err-write_refused_inputs-clause-reports g c =
    reports_front c.from_residual.result c.in_err-write_refused_inputs.field-0.0 (refused_inputs c.args.refusal.now) _ _ _ (g.W.ReportWriter.taken c.args.report.now) (g.W.ReportWriter.taken c.write_refused_inputs.new.report)
    c.from_residual.ensures.1 refl c.in_err-write_refused_inputs.ensures.writes

pub returns-clause-reports : goal.returns-clause-reports
returns-clause-reports g c =
    let told = c.in_ok-write_refused_inputs.ensures in
    (refused_inputs c.args.refusal.now, (refl, told.code), all_is_written (refused_inputs c.args.refusal.now) (g.W.ReportWriter.taken c.args.report.now) (g.W.ReportWriter.taken c.write_refused_inputs.new.report) told.writes)

pub returns-clause-status : goal.returns-clause-status
returns-clause-status g c = subst IsStatus (sym c.in_ok-write_refused_inputs.ensures.code) of_inputs

use Rattle.std.proofs.Common.{string_bytes}
use Rattle.test_runner_core_reporter.proofs.Told.{fails}
use Rattle.test_runner_core.specs.Report.{ending}
use Rattle.test_runner_core.proofs.Whole.{told_and_written, told_unwritten}
use Rattle.test_runner_core.proofs.whole_report.end_report.Goals as goal

pub returns-in_err-write_waiting-clause-writes : goal.returns-in_err-write_waiting-clause-writes
returns-in_err-write_waiting-clause-writes g c =
    let taken = g.W.ReportWriter.taken in
    fails c.from_residual-in_err-write_waiting.result _ _ _ _ _ c.from_residual-in_err-write_waiting.ensures.0
    (told_unwritten (ending c.args.session.now.plan c.args.session.now.run c.args.found)
    (taken c.args.report.now) (taken c.report_ending.new.report) (taken c.write_waiting.new.report)
    (string_bytes c.args.text.now) (string_bytes c.report_ending.new.text)
    c.in_ok-code.ensures.writes c.in_err-write_waiting.ensures.writes)

pub returns-clause-writes : goal.returns-clause-writes
returns-clause-writes g c =
    let taken = g.W.ReportWriter.taken in
    told_and_written (ending c.args.session.now.plan c.args.session.now.run c.args.found)
    (taken c.args.report.now) (taken c.report_ending.new.report) (taken c.write_waiting.new.report)
    (string_bytes c.args.text.now) (string_bytes c.report_ending.new.text) (string_bytes c.write_waiting.new.text)
    c.in_ok-code.ensures.writes c.in_ok-write_waiting.ensures.writes

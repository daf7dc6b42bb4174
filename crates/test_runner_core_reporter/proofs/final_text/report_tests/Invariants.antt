use Rattle.std.proofs.Common.{map, string_bytes, take}
use Rattle.test_runner_core_reporter.specs.Final.{shown_part, shown_tests}
use Rattle.test_runner_core_reporter.proofs.Told.{HasWritten}
use Rattle.test_runner_core_reporter.proofs.final_text.report_tests.Given as goal

abbrev pub invariant-loop-place : goal.invariant-loop-place
invariant-loop-place g l =
    HasWritten (map shown_part (take l.place (shown_tests l.session.plan l.session.plan.tests l.session.run.tests)))
    (g.W.ReportWriter.taken l.fn.report) (string_bytes l.fn.text) (g.W.ReportWriter.failures l.fn.report)
    (g.W.ReportWriter.taken l.report) (string_bytes l.text) (g.W.ReportWriter.failures l.report)

use Rattle.std.proofs.Common.{map, string_bytes, take}
use Rattle.test_runner_core_reporter.specs.Opening.{warning}
use Rattle.test_runner_core_reporter.proofs.Told.{HasWritten}
use Rattle.test_runner_core_reporter.proofs.opening.report_opening.Given as goal

abbrev pub invariant-loop-told : goal.invariant-loop-told
invariant-loop-told g l =
    HasWritten (map warning (take l.told-index l.plan.warnings))
    (g.W.ReportWriter.taken l.fn.report) (string_bytes l.fn.text) (g.W.ReportWriter.failures l.fn.report)
    (g.W.ReportWriter.taken l.report) (string_bytes l.text) (g.W.ReportWriter.failures l.report)

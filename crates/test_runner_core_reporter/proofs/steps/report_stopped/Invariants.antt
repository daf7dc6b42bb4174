use Rattle.std.proofs.Common.{string_bytes}
use Rattle.test_runner_core_run_model.specs.Finishing.{is_stopped_at, places_among}
use Rattle.test_runner_core_reporter.specs.Steps.{all_done}
use Rattle.test_runner_core_reporter.proofs.Told.{HasWritten}
use Rattle.test_runner_core_reporter.proofs.steps.report_stopped.Given as goal

abbrev pub invariant-loop-place : goal.invariant-loop-place
invariant-loop-place g l =
    HasWritten (all_done l.session.plan l.session.run (places_among (is_stopped_at l.session.run.tests) l.place))
    (g.W.ReportWriter.taken l.fn.report) (string_bytes l.fn.text) (g.W.ReportWriter.failures l.fn.report)
    (g.W.ReportWriter.taken l.report) (string_bytes l.text) (g.W.ReportWriter.failures l.report)

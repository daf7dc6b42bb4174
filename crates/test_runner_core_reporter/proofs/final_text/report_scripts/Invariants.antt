use Rattle.std.proofs.Common.{map, string_bytes, take}
use Rattle.test_runner_core_reporter.specs.Final.{script_texts}
use Rattle.test_runner_core_reporter.specs.Parts.{Said}
use Rattle.test_runner_core_reporter.proofs.Told.{HasWritten}
use Rattle.test_runner_core_reporter.proofs.final_text.report_scripts.Given as goal

abbrev pub invariant-loop-place : goal.invariant-loop-place
invariant-loop-place g l =
    HasWritten (map Said (take l.place (script_texts l.session.plan.scripts l.session.run.scripts)))
    (g.W.ReportWriter.taken l.fn.report) (string_bytes l.fn.text) (g.W.ReportWriter.failures l.fn.report)
    (g.W.ReportWriter.taken l.report) (string_bytes l.text) (g.W.ReportWriter.failures l.report)

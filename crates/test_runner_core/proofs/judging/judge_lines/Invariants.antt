use Rattle.std.proofs.Common.{◌+◌, ◌-◌, string_bytes}
use Rattle.test_runner_core_log_reader.specs.declared.limits.TheConstants.{LOG_LIMIT}
use Rattle.test_runner_core.proofs.Walk.{Walking}
use Rattle.test_runner_core.proofs.judging.judge_lines.Given as goal

abbrev pub invariant-loop-fault : goal.invariant-loop-fault
invariant-loop-fault g l =
    Walking l.fn.session.plan l.fn.lines (g.R.LogReader.left l.fn.log) (g.W.ReportWriter.taken l.fn.report)
    (g.R.LogReader.calls l.fn.log) (g.R.LogReader.failures l.fn.log) (g.W.ReportWriter.failures l.fn.report)
    l.session l.lines (g.R.LogReader.left l.log) (g.W.ReportWriter.taken l.report) (string_bytes l.text)
    l.number (g.R.LogReader.calls l.log) (g.R.LogReader.failures l.log) (g.W.ReportWriter.failures l.report)

abbrev pub decreases-loop-fault : goal.decreases-loop-fault
decreases-loop-fault g l = LOG_LIMIT + 2 - l.lines.handed

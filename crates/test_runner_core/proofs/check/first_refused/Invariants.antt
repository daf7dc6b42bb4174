use Rattle.std.proofs.Common.{◌+◌, ◌-◌}
use Rattle.test_runner_core_log_reader.specs.declared.limits.TheConstants.{LOG_LIMIT}
use Rattle.test_runner_core.proofs.Checking.{Checking}
use Rattle.test_runner_core.proofs.check.first_refused.Given as goal

abbrev pub invariant-loop-lines : goal.invariant-loop-lines
invariant-loop-lines g l =
    Checking (g.R.LogReader.left l.fn.reader) (g.R.LogReader.calls l.fn.reader) (g.R.LogReader.failures l.fn.reader)
    l.number l.lines (g.R.LogReader.left l.reader) (g.R.LogReader.calls l.reader) (g.R.LogReader.failures l.reader)

abbrev pub decreases-loop-lines : goal.decreases-loop-lines
decreases-loop-lines g l = LOG_LIMIT + 2 - l.lines.handed

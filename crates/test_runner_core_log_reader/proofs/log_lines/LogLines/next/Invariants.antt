use Rattle.std.proofs.Common.{◌+◌, ◌-◌}
use Rattle.test_runner_core_log_reader.specs.Cursor.{bytes_received}
use Rattle.test_runner_core_log_reader.specs.declared.limits.TheConstants.{LOG_LIMIT}
use Rattle.test_runner_core_log_reader.proofs.Reading.{Reading}
use Rattle.test_runner_core_log_reader.proofs.log_lines.LogLines.next.Given as goal

abbrev pub invariant-loop-fault : goal.invariant-loop-fault
invariant-loop-fault g l =
    Reading l.fn.self (g.R.LogReader.left l.fn.reader) (g.R.LogReader.calls l.fn.reader) (g.R.LogReader.failures l.fn.reader)
    l.self (g.R.LogReader.left l.reader) (g.R.LogReader.calls l.reader) (g.R.LogReader.failures l.reader)

abbrev pub decreases-loop-fault : goal.decreases-loop-fault
decreases-loop-fault g l = LOG_LIMIT + 2 - bytes_received l.self

use Rattle.std.proofs.Common.{◌+◌, ◌-◌}
use Rattle.test_runner_core_log_reader.specs.Cursor.{bytes_received}
use Rattle.test_runner_core_log_reader.specs.declared.limits.TheConstants.{LOG_LIMIT}
use Rattle.test_runner_core_log_reader.proofs.FirstLine.{ReadingFirst}
use Rattle.test_runner_core_log_reader.proofs.log_lines.LogLines.behind_first_line.Given as goal

abbrev pub invariant-loop-lines : goal.invariant-loop-lines
invariant-loop-lines g l =
    ReadingFirst (g.R.LogReader.left l.fn.reader) (g.R.LogReader.calls l.fn.reader) (g.R.LogReader.failures l.fn.reader)
    l.lines (g.R.LogReader.left l.reader) (g.R.LogReader.calls l.reader) (g.R.LogReader.failures l.reader)

abbrev pub decreases-loop-lines : goal.decreases-loop-lines
decreases-loop-lines g l = LOG_LIMIT + 2 - bytes_received l.lines

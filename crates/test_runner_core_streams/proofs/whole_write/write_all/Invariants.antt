use Rattle.std.proofs.Common.{length, ◌-◌}
use Rattle.test_runner_core_streams.proofs.WholeWrite.{Writing}
use Rattle.test_runner_core_streams.proofs.whole_write.write_all.Given as goal

abbrev pub invariant-loop-at : goal.invariant-loop-at
invariant-loop-at g l =
    Writing (g.W.ReportWriter.taken l.fn.writer) (g.W.ReportWriter.taken l.writer) l.bytes l.at
    (g.W.ReportWriter.failures l.fn.writer) (g.W.ReportWriter.failures l.writer)

abbrev pub decreases-loop-at : goal.decreases-loop-at
decreases-loop-at g l = length l.bytes - l.at

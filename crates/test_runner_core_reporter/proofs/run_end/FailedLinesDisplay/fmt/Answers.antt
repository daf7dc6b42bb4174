use Rattle.test_runner_core_reporter.specs.RunEnd.{failed_lines}
use Rattle.test_runner_core_reporter.proofs.run_end.FailedLinesDisplay.fmt.Goals as goal

pub returns-clause-writes : goal.returns-clause-writes
unfolding failed_lines
returns-clause-writes g c = c.write.ensures.writes

use Rattle.test_runner_core_reporter.specs.RunEnd.{passed_lines}
use Rattle.test_runner_core_reporter.proofs.run_end.PassedLinesDisplay.fmt.Goals as goal

pub returns-clause-writes : goal.returns-clause-writes
unfolding passed_lines
returns-clause-writes g c = c.write.ensures.writes

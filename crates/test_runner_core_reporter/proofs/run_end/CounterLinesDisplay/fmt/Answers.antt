use Rattle.test_runner_core_reporter.specs.RunEnd.{counter_lines}
use Rattle.test_runner_core_reporter.proofs.run_end.CounterLinesDisplay.fmt.Goals as goal

pub returns-clause-writes : goal.returns-clause-writes
unfolding counter_lines
returns-clause-writes g c = c.write.ensures.writes

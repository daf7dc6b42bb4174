use Rattle.test_runner_core_reporter.specs.RunEnd.{script_lines}
use Rattle.test_runner_core_reporter.proofs.run_end.ScriptLinesDisplay.fmt.Goals as goal

pub returns-clause-writes : goal.returns-clause-writes
unfolding script_lines
returns-clause-writes g c = c.write.ensures.writes

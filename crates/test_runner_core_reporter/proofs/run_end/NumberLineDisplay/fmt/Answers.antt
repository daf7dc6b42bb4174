use Rattle.std.proofs.Common.{arith}
use Rattle.std.proofs.lemmas.Grind.{common_steps}
use Rattle.test_runner_core_reporter.specs.RunEnd.{number_line}
use Rattle.test_runner_core_reporter.proofs.run_end.NumberLineDisplay.fmt.Goals as goal

pub returns-clause-writes : goal.returns-clause-writes
unfolding number_line
returns-clause-writes g c = grind (arith, common_steps)

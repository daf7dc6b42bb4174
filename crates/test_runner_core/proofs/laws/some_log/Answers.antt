use Rattle.test_runner_core.proofs.SomeLog.{ends_some_log, runs_some_log}
use Rattle.test_runner_core.proofs.laws.some_log.Goals as goal

pub returns-clause-log : goal.returns-clause-log
returns-clause-log c = ends_some_log

pub returns-clause-run : goal.returns-clause-run
returns-clause-run c = runs_some_log

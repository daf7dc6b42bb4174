use Rattle.test_runner_core_planning.proofs.Isolated.{isolates_plans}
use Rattle.test_runner_core.proofs.Isolated.{isolates_reports}
use Rattle.test_runner_core.proofs.laws.isolation.Goals as goal

pub returns-clause-plan : goal.returns-clause-plan
returns-clause-plan c = isolates_plans

pub returns-clause-report : goal.returns-clause-report
returns-clause-report c = isolates_reports

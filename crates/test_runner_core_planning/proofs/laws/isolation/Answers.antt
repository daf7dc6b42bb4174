use Rattle.test_runner_core_planning.proofs.Isolated.{isolates_plans}
use Rattle.test_runner_core_planning.proofs.laws.isolation.Goals as goal

pub returns : goal.returns
returns c = record { plan = isolates_plans }

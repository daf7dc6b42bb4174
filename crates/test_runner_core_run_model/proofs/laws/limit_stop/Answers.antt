use Rattle.test_runner_core_run_model.proofs.FailLimit.{stays_below_limit, stops_exactly_at_limit}
use Rattle.test_runner_core_run_model.proofs.laws.limit_stop.Goals as goal

pub returns-clause-below : goal.returns-clause-below
returns-clause-below c = stays_below_limit

pub returns-clause-exactly : goal.returns-clause-exactly
returns-clause-exactly c = stops_exactly_at_limit

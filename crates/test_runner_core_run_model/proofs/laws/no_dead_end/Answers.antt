use Rattle.test_runner_core_run_model.proofs.Spending.{has_at_most}
use Rattle.test_runner_core_run_model.proofs.GoingOn.{has_next, reaches_an_end}
use Rattle.test_runner_core_run_model.proofs.laws.no_dead_end.Goals as goal

pub returns-clause-next : goal.returns-clause-next
returns-clause-next c = has_next

pub returns-clause-at_most : goal.returns-clause-at_most
returns-clause-at_most c = has_at_most

pub returns-clause-end : goal.returns-clause-end
returns-clause-end c = reaches_an_end

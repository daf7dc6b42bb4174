use Rattle.std.proofs.Common.{ap, length}
use Rattle.nextest_run_events_counters.proofs.execution_statuses.ExecutionStatuses.len.Goals as goal

pub returns-clause-count : goal.returns-clause-count
returns-clause-count g c = ap length c.as_slice.ensures.statuses

pub returns-clause-not_empty : goal.returns-clause-not_empty
returns-clause-not_empty g c = c.as_slice.ensures.not_empty

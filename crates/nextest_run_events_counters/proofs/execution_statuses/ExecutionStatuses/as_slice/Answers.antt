use Rattle.std.proofs.Common.{ap, ◌∙◌}
use Rattle.nextest_run_events_counters.proofs.execution_statuses.ExecutionStatuses.as_slice.Goals as goal

pub returns-clause-statuses : goal.returns-clause-statuses
returns-clause-statuses g c = c.as_slice.ensures ∙ ap (λ it. it.statuses) c.self.view_is

pub returns-clause-not_empty : goal.returns-clause-not_empty
returns-clause-not_empty g c = rw c.as_slice.ensures c.self.invariant

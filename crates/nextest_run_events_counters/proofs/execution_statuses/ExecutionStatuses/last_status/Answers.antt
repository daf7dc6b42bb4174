use Rattle.std.proofs.Common.{refl, arith, length}
use Rattle.std.proofs.lemmas.Option.{slice_get_read}
use Rattle.nextest_run_events_counters.proofs.execution_statuses.ExecutionStatuses.last_status.Goals as goal

pub returns : goal.returns
returns g c =
    rw (← c.as_slice-statuses.ensures.statuses)
    (slice_get_read c.as_slice-statuses.result.now (length c.as_slice-statuses.result.now) _ _ refl (omega arith) (cc))

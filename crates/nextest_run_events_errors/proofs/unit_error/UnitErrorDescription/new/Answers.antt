-- the slice of a process that was started is that of its end and its output
use Rattle.nextest_run_events_errors.proofs.unit_error.UnitErrorDescription.new.Goals as goal

pub returns-in-Output-clause-slice : goal.returns-in-Output-clause-slice
returns-in-Output-clause-slice c = rw c.in-Output.is c.slice_if_failed.ensures

use Rattle.nextest_run_events_slices.proofs.Taken.{same_stop}
use Rattle.nextest_run_events_slices.proofs.laws.one_stop.Goals as goal

pub returns : goal.returns
returns c = same_stop

use Rattle.nextest_run_events_slices.proofs.OneSlice.{same_taken}
use Rattle.nextest_run_events_slices.proofs.laws.one_taken.Goals as goal

pub returns : goal.returns
returns c = same_taken

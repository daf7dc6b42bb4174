use Rattle.nextest_run_events_slices.proofs.OneSlice.{same_slice}
use Rattle.nextest_run_events_slices.proofs.SomeSlice.{some_slice}
use Rattle.nextest_run_events_slices.proofs.laws.one_slice.Goals as goal

pub returns : goal.returns
returns c = record { one = same_slice; some = some_slice }

use Rattle.std.proofs.Common.{◌-◌, ◌≤◌, length}
use Rattle.nextest_run_events_slices.specs.Places.{IsLineStart}
use Rattle.nextest_run_events_slices.proofs.Taken.{IsWalked}
use Rattle.nextest_run_events_slices.proofs.panics.last_panic.Given as goal

abbrev pub invariant-loop-stop : goal.invariant-loop-stop
invariant-loop-stop l = (l.at ≤ length l.output) × IsLineStart l.output l.at × IsWalked l.output l.at l.last

abbrev pub decreases-loop-stop : goal.decreases-loop-stop
decreases-loop-stop l = length l.output - l.at

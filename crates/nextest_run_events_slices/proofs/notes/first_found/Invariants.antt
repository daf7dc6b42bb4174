use Rattle.std.proofs.Common.{◌≡◌, ◌<◌, ℕ, length, take}
use Rattle.std.specs.List.{concat}
use Rattle.bstr.specs.Text.{lines_of}
use Rattle.nextest_run_events_slices.specs.Notes.{HasNote}
use Rattle.nextest_run_events_slices.proofs.notes.first_found.Given as goal

abbrev pub invariant-loop-line : goal.invariant-loop-line
invariant-loop-line l =
    (l.start ≡ length (concat (take (length l.yielded) (lines_of l.fn.output)))) × ((k : ℕ) → k < length l.yielded → ¬ (HasNote l.fn.output k))

-- How far a stress run came.
use Rattle.std.specs.Prelude.{ℕ, ◌-◌, ◌==◌, List, ◌++◌, Option, None, Some, codes, decimal, if◌then◌else◌}
use Rattle.std.specs.Duration.{as_nanos}
use Rattle.std.specs.NonZero.{non_zero_u32_get}
use Rattle.uuid.specs.Text.{hyphenated_text, lower}
use Rattle.nextest_run_events_outcomes.specs.declared.stress_count.StressCount.TheVariants as runs
use Rattle.nextest_run_events_outcomes.specs.declared.stress_progress.StressProgress.{StressProgress}
use Rattle.nextest_run_events_outcomes.specs.declared.stress_progress.StressProgress.TheVariants as by
use Rattle.nextest_run_events_outcomes.specs.declared.stress_progress.StressRemaining.{StressRemaining}
use Rattle.nextest_run_events_outcomes.specs.declared.stress_progress.StressRemaining.TheVariants as left

-- an amount of sub-runs, or of nanoseconds
pub data Amount : Type 0 where
  Runs : ℕ → Amount
  Nanos : ℕ → Amount
  Endless : Amount

-- what remains, in numbers
abbrev pub amount_of : StressRemaining → Amount
amount_of (left.Count count) = Runs (non_zero_u32_get count)
amount_of left.Infinite = Endless
amount_of (left.Time time) = Nanos (as_nanos time)

-- an amount that is no zero
abbrev pub above_zero : (ℕ → Amount) → ℕ → Option Amount
above_zero unit n = if n == 0 then None else Some (unit n)

-- what a stress run still has to do: its total less what is completed or elapsed
abbrev pub remaining_of : StressProgress → Option Amount
remaining_of (by.Count (runs.Count count) elapsed completed) = above_zero Runs (non_zero_u32_get count - completed)
remaining_of (by.Count runs.Infinite elapsed completed) = Some Endless
remaining_of (by.Time total elapsed completed) = above_zero Nanos (as_nanos total - as_nanos elapsed)

-- how many sub-runs were completed
abbrev pub completed_of : StressProgress → ℕ
completed_of (by.Count total elapsed completed) = completed
completed_of (by.Time total elapsed completed) = completed

-- the id of the next sub-run of a run: the run's id, and how many sub-runs were completed
abbrev pub sub_run_id : List ℕ → StressProgress → List ℕ
sub_run_id run_id progress = hyphenated_text lower run_id ++ codes ":@stress-" ++ decimal (completed_of progress)

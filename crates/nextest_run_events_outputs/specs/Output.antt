-- What a child process wrote, and whether anything went wrong with it.
use Rattle.std.specs.Prelude.{ℕ, List, length, Bool, true, false, not, ◌||◌, Option, Some, None, is_some}
use Rattle.std.specs.Option.{option_map, option_map_or}
use Rattle.nextest_run_events_results.specs.Result.{is_success}
use Rattle.nextest_run_events_outputs.specs.declared.output.ChildOutputDescription.{ChildOutputDescription}
use Rattle.nextest_run_events_outputs.specs.declared.output.ChildOutputDescription.TheVariants as written
use Rattle.nextest_run_events_outputs.specs.declared.output.ChildExecutionOutputDescription.{ChildExecutionOutputDescription}
use Rattle.nextest_run_events_outputs.specs.declared.output.ChildExecutionOutputDescription.TheVariants as came

-- the length of a stream, if it was captured
abbrev pub stream_length : Option (List ℕ) → Option ℕ
stream_length = option_map length

-- the lengths of standard output and standard error; both in one count as standard output
abbrev pub stream_lengths : ChildOutputDescription → Option ℕ × Option ℕ
stream_lengths (written.Split stdout stderr) = (stream_length stdout, stream_length stderr)
stream_lengths (written.Combined output) = (Some (length output), None)
stream_lengths written.NotLoaded = (None, None)

-- it could not be started, errors are listed, or it ended without success
abbrev pub has_errors : {S O : Type 0} → ChildExecutionOutputDescription S O → Bool
has_errors (came.Output result output errors) = is_some errors || option_map_or (λ ended. not (is_success ended)) result false
has_errors (came.StartError error) = true

-- What went wrong with an attempt, collected from what its process left.
use Rattle.std.specs.Prelude.{◌≡◌, ◌≢◌, ℕ, List, [], ◌++◌, Bool, false, not, MatchBool, Option, Some, None, option_copied}
use Rattle.std.specs.Option.{option_map}
use Rattle.nextest_run_events_results.specs.Result.{is_success}
use Rattle.nextest_run_events_results.specs.declared.result.ExecutionResultDescription.{ExecutionResultDescription}
use Rattle.nextest_run_events_results.specs.declared.result.ExecutionResultDescription.TheVariants as came_to
use Rattle.nextest_run_events_results.specs.declared.result.FailureDescription.TheVariants as failed
use Rattle.nextest_run_events_outputs.specs.declared.child_error.ChildErrorDescription.{ChildErrorDescription}
use Rattle.nextest_run_events_outputs.specs.declared.child_error.ChildStartErrorDescription.{ChildStartErrorDescription}
use Rattle.nextest_run_events_outputs.specs.declared.error_list.ErrorList.{ErrorList}
use Rattle.nextest_run_events_outputs.specs.declared.output.LiveSpec.{LiveSpec}
use Rattle.nextest_run_events_outputs.specs.declared.output.ChildOutputDescription.{ChildOutputDescription}
use Rattle.nextest_run_events_outputs.specs.declared.output.ChildOutputDescription.TheVariants as written
use Rattle.nextest_run_events_outputs.specs.declared.output.ChildExecutionOutputDescription.{ChildExecutionOutputDescription}
use Rattle.nextest_run_events_outputs.specs.declared.output.ChildExecutionOutputDescription.TheVariants as came
use Rattle.nextest_run_events_slices.specs.Slices.{bytes_of_output, IsSlice}
use Rattle.nextest_run_events_slices.specs.declared.slices.TestOutputErrorSlice.{TestOutputErrorSlice}
use Rattle.nextest_run_events_outcomes.specs.declared.unit_kind.UnitKind.{UnitKind}
use Rattle.nextest_run_events_outcomes.specs.declared.unit_kind.UnitKind.TheVariants as unit
use Rattle.nextest_run_events_errors.specs.Errors.{Aborted, Described, abort_value, exec_fail, child_process}
use Rattle.nextest_run_events_errors.specs.declared.unit_error.UnitErrorDescription.{UnitErrorDescription}

-- what a process left
abbrev pub Output : Type 0
Output = ChildExecutionOutputDescription LiveSpec ChildOutputDescription

-- its output was loaded
abbrev pub IsLoaded : Output → Type 0
IsLoaded (came.StartError error) = Unit {0}
IsLoaded (came.Output ended output errors) = output ≢ written.NotLoaded

-- why it could not be started
abbrev pub start_error_of : Output → Option ChildStartErrorDescription
start_error_of (came.StartError error) = Some error
start_error_of (came.Output ended output errors) = None

-- the errors of a list, if there is one
abbrev pub errors_in : Option (ErrorList ChildErrorDescription) → List ChildErrorDescription
errors_in None = []
errors_in (Some errors) = errors.items

-- what went wrong while it ran or was read
abbrev pub output_errors_of : Output → List ChildErrorDescription
output_errors_of (came.StartError error) = []
output_errors_of (came.Output ended output errors) = errors_in errors

-- the abort that a result tells, if it tells one
abbrev pub abort_in : Option ExecutionResultDescription → Option Aborted
abort_in (Some (came_to.Fail (failed.Abort abort) leaked)) = Some (record { how = abort; leaked = leaked })
abort_in _ = None

-- how it was ended
abbrev pub abort_of : Output → Option Aborted
abort_of (came.StartError error) = None
abort_of (came.Output ended output errors) = abort_in ended

-- what it wrote to standard output and to standard error: both in one serve as either
abbrev pub stdout_of : ChildOutputDescription → List ℕ
stdout_of (written.Split stdout stderr) = bytes_of_output stdout
stdout_of (written.Combined output) = output
stdout_of written.NotLoaded = []

abbrev pub stderr_of : ChildOutputDescription → List ℕ
stderr_of (written.Split stdout stderr) = bytes_of_output stderr
stderr_of (written.Combined output) = output
stderr_of written.NotLoaded = []

-- a test whose result is known and no success
abbrev pub is_failed_test : UnitKind → Option ExecutionResultDescription → Bool
is_failed_test unit.Test (Some ended) = not (is_success ended)
is_failed_test _ _ = false

-- a slice is looked for in the output of a failed test alone
abbrev pub IsSliceOfEnd : UnitKind → Option ExecutionResultDescription → ChildOutputDescription → Option TestOutputErrorSlice → Type 0
IsSliceOfEnd kind ended output slice = MatchBool (is_failed_test kind ended) (IsSlice (stdout_of output) (stderr_of output) slice) (slice ≡ None)

-- the slice of what a process left: a process that was not started has none
abbrev pub IsSliceOf : UnitKind → Output → Option TestOutputErrorSlice → Type 0
IsSliceOf kind (came.StartError error) slice = slice ≡ None
IsSliceOf kind (came.Output ended output errors) slice = IsSliceOfEnd kind ended output slice

-- what went wrong, collected
pub record Collected : Type 0 where
  pub kind : UnitKind
  pub start : Option ChildStartErrorDescription
  pub outputs : List ChildErrorDescription
  pub abort : Option Aborted
  pub slice : Option TestOutputErrorSlice

-- what a description has collected
abbrev pub collection_of : UnitErrorDescription → Collected
collection_of all = record {
  kind = all.kind;
  start = option_copied all.start_error;
  outputs = all.output_errors.now;
  abort = option_map abort_value all.abort;
  slice = all.output_slice;
}

-- the start error or the output errors
abbrev pub exec_fail_errors : Collected → List Described
exec_fail_errors all = exec_fail all.start all.outputs

-- the abort and the slice
abbrev pub child_process_errors : Collected → List Described
child_process_errors all = child_process all.abort all.slice

-- all of them in order
abbrev pub errors_of : Collected → List Described
errors_of all = exec_fail_errors all ++ child_process_errors all

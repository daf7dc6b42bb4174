-- What holds of all values that are written and read.
use Rattle.std.specs.Prelude.{◌≡◌, Ok, FitsSigned}
use Rattle.std.specs.Int.{w32}
use Rattle.nextest_run_events_results.specs.declared.result.AbortDescription.{AbortDescription}
use Rattle.nextest_run_events_results.specs.declared.result.AbortDescription.TheVariants as aborted
use Rattle.nextest_run_events_results.specs.declared.result.FailureDescription.{FailureDescription}
use Rattle.nextest_run_events_results.specs.declared.result.FailureDescription.TheVariants as failed
use Rattle.nextest_run_events_results.specs.declared.result.ExecutionResultDescription.{ExecutionResultDescription}
use Rattle.nextest_run_events_results.specs.declared.result.ExecutionResultDescription.TheVariants as ended
use Rattle.nextest_run_events_outputs.specs.declared.serializable_error.ErrorChain.{ErrorChain}
use Rattle.nextest_run_events_json.specs.Forms as form
use Rattle.nextest_run_events_json.specs.Reading as read

-- the number in it has 32 bits, as every such value of a program has
abbrev pub FitsAbort : AbortDescription → Type 0
FitsAbort (aborted.UnixSignal signal name) = FitsSigned w32 signal
FitsAbort (aborted.WindowsNtStatus code message) = FitsSigned w32 code
FitsAbort aborted.WindowsJobObject = Unit {0}

abbrev pub FitsFailure : FailureDescription → Type 0
FitsFailure (failed.ExitCode code) = FitsSigned w32 code
FitsFailure (failed.Abort how) = FitsAbort how

abbrev pub FitsResult : ExecutionResultDescription → Type 0
FitsResult ended.Pass = Unit {0}
FitsResult (ended.Leak judged) = Unit {0}
FitsResult (ended.Fail why leaked) = FitsFailure why
FitsResult ended.ExecFail = Unit {0}
FitsResult (ended.Timeout judged) = Unit {0}

-- what is written reads as what it was
abbrev pub AbortReadBack : Type 0
AbortReadBack = (abort : AbortDescription) → FitsAbort abort → read.abort (form.abort abort) ≡ Ok abort

abbrev pub FailureReadBack : Type 0
FailureReadBack = (failure : FailureDescription) → FitsFailure failure → read.failure (form.failure failure) ≡ Ok failure

abbrev pub ResultReadBack : Type 0
ResultReadBack = (result : ExecutionResultDescription) → FitsResult result → read.result (form.result result) ≡ Ok result

abbrev pub ErrorReadBack : Type 0
ErrorReadBack = (error : ErrorChain) → read.error (form.error error) ≡ Ok error

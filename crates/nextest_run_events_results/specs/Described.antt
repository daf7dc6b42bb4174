-- What a process that ended was ended by, and how a result without texts is described.
use Rattle.std.specs.Prelude.{Option, None, Some}
use Rattle.nextest_run_events_results.specs.Signals.{signal_name}
use Rattle.nextest_run_events_results.specs.declared.execution_result.ExitStatus.{ExitStatus}
use Rattle.nextest_run_events_results.specs.declared.execution_result.ExitStatus.TheVariants as exit
use Rattle.nextest_run_events_results.specs.declared.execution_result.AbortStatus.{AbortStatus}
use Rattle.nextest_run_events_results.specs.declared.execution_result.AbortStatus.TheVariants as abort_status
use Rattle.nextest_run_events_results.specs.declared.execution_result.FailureStatus.{FailureStatus}
use Rattle.nextest_run_events_results.specs.declared.execution_result.FailureStatus.TheVariants as failure_status
use Rattle.nextest_run_events_results.specs.declared.execution_result.ExecutionResult.{ExecutionResult}
use Rattle.nextest_run_events_results.specs.declared.execution_result.ExecutionResult.TheVariants as came
use Rattle.nextest_run_events_results.specs.declared.result.AbortDescription.{AbortDescription}
use Rattle.nextest_run_events_results.specs.declared.result.AbortDescription.TheVariants as aborted
use Rattle.nextest_run_events_results.specs.declared.result.FailureDescription.{FailureDescription}
use Rattle.nextest_run_events_results.specs.declared.result.FailureDescription.TheVariants as failed
use Rattle.nextest_run_events_results.specs.declared.result.ExecutionResultDescription.{ExecutionResultDescription}
use Rattle.nextest_run_events_results.specs.declared.result.ExecutionResultDescription.TheVariants as ended

-- only a signal aborts a process
abbrev pub abort_of : ExitStatus → Option AbortStatus
abort_of (exit.Code code) = None
abort_of (exit.Signal signal) = Some (abort_status.UnixSignal signal)

-- that abort, or the code
abbrev pub failure_of : ExitStatus → FailureStatus
failure_of (exit.Code code) = failure_status.ExitCode code
failure_of (exit.Signal signal) = failure_status.Abort (abort_status.UnixSignal signal)

-- a signal is told with its name, where it has one
abbrev pub described_abort : AbortStatus → AbortDescription
described_abort (abort_status.UnixSignal signal) = aborted.UnixSignal signal (signal_name signal)

abbrev pub described_failure : FailureStatus → FailureDescription
described_failure (failure_status.ExitCode code) = failed.ExitCode code
described_failure (failure_status.Abort status) = failed.Abort (described_abort status)

abbrev pub result_description_of : ExecutionResult → ExecutionResultDescription
result_description_of came.Pass = ended.Pass
result_description_of (came.Leak judged) = ended.Leak judged
result_description_of (came.Fail status leaked) = ended.Fail (described_failure status) leaked
result_description_of came.ExecFail = ended.ExecFail
result_description_of (came.Timeout judged) = ended.Timeout judged

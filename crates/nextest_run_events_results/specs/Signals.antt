-- Signals of Unix.
use Rattle.std.specs.Prelude.{ℕ, Bool, true, false, ℤ, pos, List, Option, None, Some, codes, if◌then◌else◌}
use Rattle.nextest_run_events_results.specs.declared.signals.TheConstants.{SIGTERM}
use Rattle.std.specs.Ordering.{int_eq}
use Rattle.nextest_run_events_results.specs.declared.result.AbortDescription.{AbortDescription}
use Rattle.nextest_run_events_results.specs.declared.result.AbortDescription.TheVariants as aborted
use Rattle.nextest_run_events_results.specs.declared.result.FailureDescription.TheVariants as failed
use Rattle.nextest_run_events_results.specs.declared.result.ExecutionResultDescription.{ExecutionResultDescription}
use Rattle.nextest_run_events_results.specs.declared.result.ExecutionResultDescription.TheVariants as ended

-- the name of a signal without `SIG`
abbrev pub signal_name : ℤ → Option (List ℕ)
signal_name signal =
    if int_eq signal (pos 1) then Some (codes "HUP")
    else if int_eq signal (pos 2) then Some (codes "INT")
    else if int_eq signal (pos 3) then Some (codes "QUIT")
    else if int_eq signal (pos 4) then Some (codes "ILL")
    else if int_eq signal (pos 5) then Some (codes "TRAP")
    else if int_eq signal (pos 6) then Some (codes "ABRT")
    else if int_eq signal (pos 8) then Some (codes "FPE")
    else if int_eq signal (pos 9) then Some (codes "KILL")
    else if int_eq signal (pos 11) then Some (codes "SEGV")
    else if int_eq signal (pos 13) then Some (codes "PIPE")
    else if int_eq signal (pos 14) then Some (codes "ALRM")
    else if int_eq signal (pos 15) then Some (codes "TERM")
    else None

-- an abort by the signal to end, or by a job object
abbrev pub is_termination : AbortDescription → Bool
is_termination (aborted.UnixSignal signal name) = int_eq signal SIGTERM
is_termination (aborted.WindowsNtStatus code message) = false
is_termination aborted.WindowsJobObject = true

-- a failure by such an abort
abbrev pub is_termination_failure : ExecutionResultDescription → Bool
is_termination_failure (ended.Fail (failed.Abort abort) leaked) = is_termination abort
is_termination_failure _ = false

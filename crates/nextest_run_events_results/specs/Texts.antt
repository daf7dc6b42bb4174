-- The texts by which results print.
use Rattle.std.specs.Prelude.{ℕ, zero, suc, ◌/◌, ◌%◌, false, ℤ, List, [], ◌∷◌, ◌++◌, Option, None, Some, codes}
use Rattle.std.specs.Fmt.{digit_glyph, signed_decimal}
use Rattle.std.specs.Int.{w32, cast_unsigned}
use Rattle.nextest_run_events_results.specs.declared.cancel_reason.CancelReason.{CancelReason}
use Rattle.nextest_run_events_results.specs.declared.cancel_reason.CancelReason.TheVariants as why
use Rattle.nextest_run_events_results.specs.declared.result.AbortDescription.{AbortDescription}
use Rattle.nextest_run_events_results.specs.declared.result.AbortDescription.TheVariants as aborted
use Rattle.nextest_run_events_results.specs.declared.result.FailureDescription.{FailureDescription}
use Rattle.nextest_run_events_results.specs.declared.result.FailureDescription.TheVariants as failed
use Rattle.nextest_run_events_results.specs.declared.result.ExecutionResultDescription.{ExecutionResultDescription}
use Rattle.nextest_run_events_results.specs.declared.result.ExecutionResultDescription.TheVariants as ended

-- the last digits of a number in lower-case hexadecimal, so many of them, the highest first
unfoldable pub hex_digits : ℕ → ℕ → List ℕ
hex_digits zero number = []
hex_digits (suc more) number = hex_digits more (number / 16) ++ digit_glyph false (number % 16) ∷ []

-- the name of a signal, where it has one
abbrev pub signal_suffix : Option (List ℕ) → List ℕ
signal_suffix None = []
signal_suffix (Some name) = codes " (SIG" ++ name ++ codes ")"

-- what a status means, where that is known
abbrev pub status_suffix : Option (List ℕ) → List ℕ
status_suffix None = []
status_suffix (Some message) = codes ": " ++ message

-- a status in hexadecimal: the 32 bits of its two's complement
abbrev pub status_digits : ℤ → List ℕ
status_digits code = hex_digits 8 (cast_unsigned w32 code)

-- how an abort prints
abbrev pub text_of_abort : AbortDescription → List ℕ
text_of_abort (aborted.UnixSignal signal name) = codes "aborted with signal " ++ signed_decimal signal ++ signal_suffix name
text_of_abort (aborted.WindowsNtStatus code message) = codes "aborted with code 0x" ++ status_digits code ++ status_suffix message
text_of_abort aborted.WindowsJobObject = codes "terminated via job object"

abbrev pub text_of_failure : FailureDescription → List ℕ
text_of_failure (failed.ExitCode code) = codes "exited with code " ++ signed_decimal code
text_of_failure (failed.Abort abort) = text_of_abort abort

-- the name of a result's kind
abbrev pub kind_name : ExecutionResultDescription → List ℕ
kind_name ended.Pass = codes "pass"
kind_name (ended.Leak judged) = codes "leak"
kind_name (ended.Fail failure leaked) = codes "fail"
kind_name ended.ExecFail = codes "exec-fail"
kind_name (ended.Timeout judged) = codes "timeout"

-- the name of a reason: failed tests have one name, whether what ran was ended or not
abbrev pub reason_name : CancelReason → List ℕ
reason_name why.SetupScriptFailure = codes "setup script failure"
reason_name why.TestFailure = codes "test failure"
reason_name why.ReportError = codes "reporting error"
reason_name why.TestFailureImmediate = codes "test failure"
reason_name why.GlobalTimeout = codes "global timeout"
reason_name why.Signal = codes "signal"
reason_name why.Interrupt = codes "interrupt"
reason_name why.SecondSignal = codes "second signal"

-- How values are read from JSON. Members of other names are read past.
use Rattle.std.specs.Prelude.{ℕ, Bool, negsuc, ℤ, pos, ◌&&◌, int_le, List, [], ◌∷◌, Option, None, Some, Ok, Err, codes, if◌then◌else◌, option_and_then}
use Rattle.std.specs.Str.{bytes_eq}
use Rattle.serde_json.specs.Data.{Data}
use Rattle.serde_json.specs.Find.{as_number, as_i64, as_str, as_bool}
use Rattle.nextest_json.specs.Reading.{Reading, ◌>>=◌, leaf, text, required, optional, by_word, listed_member}
use Rattle.nextest_config_elements_choices.specs.declared.timeouts.LeakTimeoutResult as leak_judged
use Rattle.nextest_config_elements_choices.specs.declared.timeouts.SlowTimeoutResult as timeout_judged
use Rattle.nextest_run_events_results.specs.declared.result.AbortDescription.{AbortDescription}
use Rattle.nextest_run_events_results.specs.declared.result.AbortDescription.TheVariants as aborted
use Rattle.nextest_run_events_results.specs.declared.result.FailureDescription.{FailureDescription}
use Rattle.nextest_run_events_results.specs.declared.result.FailureDescription.TheVariants as failed
use Rattle.nextest_run_events_results.specs.declared.result.ExecutionResultDescription.{ExecutionResultDescription}
use Rattle.nextest_run_events_results.specs.declared.result.ExecutionResultDescription.TheVariants as ended
use Rattle.nextest_run_events_outputs.specs.declared.serializable_error.ErrorChain.{ErrorChain}

-- what was read, without the path of what was refused
abbrev pub value_of : {A : Type 0} → Reading A → Option A
value_of (Ok value) = Some value
value_of (Err path) = None

-- a number that fits 32 bits with sign
abbrev pub in_32_bits : ℤ → Option ℤ
in_32_bits z = if int_le (negsuc 2147483647) z && int_le z (pos 2147483647) then Some z else None

abbrev pub whole_of : Data → Option ℤ
whole_of given = option_and_then in_32_bits (option_and_then as_i64 (as_number given))

abbrev pub whole : Data → Reading ℤ
whole = leaf whole_of

abbrev pub truth : Data → Reading Bool
truth = leaf as_bool

-- how a leak and a timeout are judged
abbrev pub leak_of : List ℕ → Option leak_judged.LeakTimeoutResult
leak_of word =
    if bytes_eq word (codes "pass") then Some leak_judged.TheVariants.Pass
    else if bytes_eq word (codes "fail") then Some leak_judged.TheVariants.Fail
    else None

abbrev pub leak_in : Data → Option leak_judged.LeakTimeoutResult
leak_in given = option_and_then leak_of (as_str given)

abbrev pub leak : Data → Reading leak_judged.LeakTimeoutResult
leak = leaf leak_in

abbrev pub timeout_of : List ℕ → Option timeout_judged.SlowTimeoutResult
timeout_of word =
    if bytes_eq word (codes "pass") then Some timeout_judged.TheVariants.Pass
    else if bytes_eq word (codes "fail") then Some timeout_judged.TheVariants.Fail
    else None

abbrev pub timeout_in : Data → Option timeout_judged.SlowTimeoutResult
timeout_in given = option_and_then timeout_of (as_str given)

abbrev pub timeout : Data → Reading timeout_judged.SlowTimeoutResult
timeout = leaf timeout_in

abbrev pub signal_abort : Data → Reading AbortDescription
signal_abort given = do
  signal ← required (codes "signal") whole given
  name ← optional (codes "name") text given
  Ok (aborted.UnixSignal signal name)

abbrev pub status_abort : Data → Reading AbortDescription
status_abort given = do
  code ← required (codes "code") whole given
  message ← optional (codes "message") text given
  Ok (aborted.WindowsNtStatus code message)

-- an abort by the word of its kind
abbrev pub abort_of : List ℕ → Data → Reading AbortDescription
abort_of kind given =
    if bytes_eq kind (codes "unix-signal") then signal_abort given
    else if bytes_eq kind (codes "windows-nt-status") then status_abort given
    else if bytes_eq kind (codes "windows-job-object") then Ok aborted.WindowsJobObject
    else Err (codes "kind" ∷ [])

abbrev pub abort : Data → Reading AbortDescription
abort = by_word (codes "kind") abort_of

abbrev pub code_failure : Data → Reading FailureDescription
code_failure given = do
  code ← required (codes "code") whole given
  Ok (failed.ExitCode code)

abbrev pub abort_failure : Data → Reading FailureDescription
abort_failure given = do
  how ← required (codes "abort") abort given
  Ok (failed.Abort how)

-- a failure by the word of its kind
abbrev pub failure_of : List ℕ → Data → Reading FailureDescription
failure_of kind given =
    if bytes_eq kind (codes "exit-code") then code_failure given
    else if bytes_eq kind (codes "abort") then abort_failure given
    else Err (codes "kind" ∷ [])

abbrev pub failure : Data → Reading FailureDescription
failure = by_word (codes "kind") failure_of

abbrev pub leak_result : Data → Reading ExecutionResultDescription
leak_result given = do
  judged ← required (codes "result") leak given
  Ok (ended.Leak judged)

abbrev pub fail_result : Data → Reading ExecutionResultDescription
fail_result given = do
  why ← required (codes "failure") failure given
  leaked ← required (codes "leaked") truth given
  Ok (ended.Fail why leaked)

abbrev pub timeout_result : Data → Reading ExecutionResultDescription
timeout_result given = do
  judged ← required (codes "result") timeout given
  Ok (ended.Timeout judged)

-- a result by the word of its status
abbrev pub result_of : List ℕ → Data → Reading ExecutionResultDescription
result_of status given =
    if bytes_eq status (codes "pass") then Ok ended.Pass
    else if bytes_eq status (codes "leak") then leak_result given
    else if bytes_eq status (codes "fail") then fail_result given
    else if bytes_eq status (codes "exec-fail") then Ok ended.ExecFail
    else if bytes_eq status (codes "timeout") then timeout_result given
    else Err (codes "status" ∷ [])

abbrev pub result : Data → Reading ExecutionResultDescription
result = by_word (codes "status") result_of

abbrev pub error : Data → Reading ErrorChain
error given = do
  causes ← listed_member (codes "causes") text given
  message ← required (codes "message") text given
  Ok (record { message = message; causes = causes })

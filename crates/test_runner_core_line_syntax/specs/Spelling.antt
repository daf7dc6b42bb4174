-- How an event is spelled as a line of the log.
use Rattle.std.specs.Prelude.{◌≡◌, ◌≢◌, ℕ, ℤ, pos, ◌^◌, ◌<◌, Bool, true, false, List, [], ◌∷◌, ◌++◌, Option, Some, None, FitsSigned, codes, decimal}
use Rattle.std.specs.Fmt.{signed_decimal}
use Rattle.std.specs.Int.{w32}
use Rattle.std.specs.List.{AllByRecursion}
use Rattle.std.specs.Str.{IsUtf8}
use Rattle.hex.specs.Hex.{IsBytes, encode_lower}
use Rattle.nextest_config_elements_choices.specs.declared.timeouts.LeakTimeoutResult as leak_judged
use Rattle.nextest_config_elements_choices.specs.declared.timeouts.SlowTimeoutResult as timeout_judged
use Rattle.nextest_run_events_results.specs.Cancel.{is_inner}
use Rattle.nextest_run_events_results.specs.Signals.{signal_name}
use Rattle.nextest_run_events_results.specs.declared.cancel_reason.CancelReason.{CancelReason}
use Rattle.nextest_run_events_results.specs.declared.cancel_reason.CancelReason.TheVariants as why
use Rattle.nextest_run_events_results.specs.declared.result.AbortDescription.TheVariants as aborted_by
use Rattle.nextest_run_events_results.specs.declared.result.FailureDescription.{FailureDescription}
use Rattle.nextest_run_events_results.specs.declared.result.FailureDescription.TheVariants as failed_by
use Rattle.nextest_run_events_results.specs.declared.result.ExecutionResultDescription.{ExecutionResultDescription}
use Rattle.nextest_run_events_results.specs.declared.result.ExecutionResultDescription.TheVariants as ended
use Rattle.nextest_run_events_results.specs.declared.record.Record.{Record}
use Rattle.nextest_run_events_results.specs.declared.record.RecordOutput.{RecordOutput}
use Rattle.nextest_run_events_results.specs.declared.record.RecordOutput.TheVariants as wrote
use Rattle.test_runner_core_line_syntax.specs.declared.log_line.LogLine.{LogLine}
use Rattle.test_runner_core_line_syntax.specs.declared.log_line.LogLine.TheVariants as line

-- how a leak is judged
abbrev pub leak_word : leak_judged.LeakTimeoutResult → List ℕ
leak_word leak_judged.TheVariants.Pass = codes "pass"
leak_word leak_judged.TheVariants.Fail = codes "fail"

-- how a timeout is judged
abbrev pub timeout_word : timeout_judged.SlowTimeoutResult → List ℕ
timeout_word timeout_judged.TheVariants.Pass = codes "pass"
timeout_word timeout_judged.TheVariants.Fail = codes "fail"

-- what stands behind a failure that also left handles open
abbrev pub leaked_suffix : Bool → List ℕ
leaked_suffix true = codes ":leaked"
leaked_suffix false = []

-- SIG: a signal's number is 1 to 127
abbrev pub IsSignal : ℤ → Type 0
IsSignal signal = (number : ℕ) × (signal ≡ pos number) × (0 < number) × (number < 128)

-- `fail:CODE` with a code of 32 bits that isn't 0, `abort:SIG` of a signal with the name that it
-- has
abbrev pub SpellsFailure : FailureDescription → List ℕ → Type 0
SpellsFailure (failed_by.ExitCode code) text = FitsSigned w32 code × (code ≢ pos 0) × (text ≡ codes "fail:" ++ signed_decimal code)
SpellsFailure (failed_by.Abort (aborted_by.UnixSignal signal name)) text =
    IsSignal signal × (name ≡ signal_name signal) × (text ≡ codes "abort:" ++ signed_decimal signal)
SpellsFailure (failed_by.Abort (aborted_by.WindowsNtStatus code message)) text = ⊥
SpellsFailure (failed_by.Abort aborted_by.WindowsJobObject) text = ⊥

-- RESULT: `pass`, a leak or a timeout as it is judged, a failure, with `:leaked` where handles were
-- left open too, or `exec-fail`
abbrev pub SpellsResult : ExecutionResultDescription → List ℕ → Type 0
SpellsResult ended.Pass field = field ≡ codes "pass"
SpellsResult (ended.Leak judged) field = field ≡ codes "leak:" ++ leak_word judged
SpellsResult (ended.Fail failure leaked) field = (text : List ℕ) × SpellsFailure failure text × (field ≡ text ++ leaked_suffix leaked)
SpellsResult ended.ExecFail field = field ≡ codes "exec-fail"
SpellsResult (ended.Timeout judged) field = field ≡ codes "timeout:" ++ timeout_word judged

-- SLOW: `slow` or `-`
abbrev pub SpellsSlow : Bool → List ℕ → Type 0
SpellsSlow true field = field ≡ codes "slow"
SpellsSlow false field = field ≡ codes "-"

-- NANOS: a number of 64 bits in shortest decimal
abbrev pub SpellsNanos : ℕ → List ℕ → Type 0
SpellsNanos nanos field = (nanos < 2 ^ 64) × (field ≡ decimal nanos)

-- bytes in lower-case hex: two digits a byte, the high one first
abbrev pub SpellsHex : List ℕ → List ℕ → Type 0
SpellsHex bytes field = IsBytes bytes × (field ≡ encode_lower bytes)

-- what a stream wrote, or `-` for a stream that was not captured
abbrev pub SpellsStream : Option (List ℕ) → List ℕ → Type 0
SpellsStream None field = field ≡ codes "-"
SpellsStream (Some bytes) field = SpellsHex bytes field

-- OUT and ERR: a stream each, or a message in OUT and `-` in ERR
abbrev pub SpellsOutput : RecordOutput → List ℕ → List ℕ → Type 0
SpellsOutput (wrote.Streams out err) first second = SpellsStream out first × SpellsStream err second
SpellsOutput (wrote.Message message) first second = IsUtf8 message × SpellsHex message first × (second ≡ codes "-")

abbrev pub is_exec_fail : ExecutionResultDescription → Bool
is_exec_fail ended.Pass = false
is_exec_fail (ended.Leak judged) = false
is_exec_fail (ended.Fail failure leaked) = false
is_exec_fail ended.ExecFail = true
is_exec_fail (ended.Timeout judged) = false

abbrev pub has_message : RecordOutput → Bool
has_message (wrote.Streams out err) = false
has_message (wrote.Message message) = true

-- a message goes with what could not be started, and with no other result
abbrev pub Pairs : ExecutionResultDescription → RecordOutput → Type 0
Pairs result output = is_exec_fail result ≡ has_message output

-- RESULT SLOW NANOS OUT ERR
abbrev pub SpellsRecord : Record → List (List ℕ) → Type 0
SpellsRecord ending (result ∷ slow ∷ nanos ∷ out ∷ err ∷ []) =
    SpellsResult ending.result result × SpellsSlow ending.slow slow × SpellsNanos ending.nanos nanos
    × SpellsOutput ending.output out err × Pairs ending.result ending.output
SpellsRecord ending _ = ⊥

-- a reason in kebab case
abbrev pub reason_word : CancelReason → List ℕ
reason_word why.SetupScriptFailure = codes "setup-script-failure"
reason_word why.TestFailure = codes "test-failure"
reason_word why.ReportError = codes "report-error"
reason_word why.TestFailureImmediate = codes "test-failure-immediate"
reason_word why.GlobalTimeout = codes "global-timeout"
reason_word why.Signal = codes "signal"
reason_word why.Interrupt = codes "interrupt"
reason_word why.SecondSignal = codes "second-signal"

-- REASON: one that comes from outside
abbrev pub SpellsReason : CancelReason → List ℕ → Type 0
SpellsReason reason field = (is_inner reason ≡ false) × (field ≡ reason_word reason)

-- the fields of an event: `script` ID and its record, `start` BINARY NAME, `end` BINARY NAME and
-- its record, `stop` REASON
abbrev pub SpellsFields : LogLine → List (List ℕ) → Type 0
SpellsFields (line.Script id ending) (word ∷ first ∷ rest) = (word ≡ codes "script") × (first ≡ id) × SpellsRecord ending rest
SpellsFields (line.Start binary name) (word ∷ first ∷ second ∷ []) = (word ≡ codes "start") × (first ≡ binary) × (second ≡ name)
SpellsFields (line.End binary name ending) (word ∷ first ∷ second ∷ rest) = (word ≡ codes "end") × (first ≡ binary) × (second ≡ name) × SpellsRecord ending rest
SpellsFields (line.Stop reason) (word ∷ named ∷ []) = (word ≡ codes "stop") × SpellsReason reason named
SpellsFields _ _ = ⊥

-- a field has neither a tab nor a line feed in it
abbrev pub IsField : List ℕ → Type 0
IsField field = AllByRecursion (λ byte. (byte ≢ 9) × (byte ≢ 10)) field

-- the fields, with a tab between each two
abbrev pub line_of_fields : List (List ℕ) → List ℕ
line_of_fields [] = []
line_of_fields (field ∷ []) = field
line_of_fields (field ∷ next ∷ fields) = field ++ 9 ∷ line_of_fields (next ∷ fields)

-- the bytes of a line, its line feed left aside, spell the event
pub record Spells (line : LogLine) (bytes : List ℕ) : Type 0 where
  pub fields : List (List ℕ)
  pub spelled : SpellsFields line fields
  pub plain : AllByRecursion IsField fields
  pub whole : bytes ≡ line_of_fields fields
  pub utf8 : IsUtf8 bytes

-- some line spells the event
abbrev pub HasSpelling : LogLine → Type 0
HasSpelling line = (bytes : List ℕ) × Spells line bytes

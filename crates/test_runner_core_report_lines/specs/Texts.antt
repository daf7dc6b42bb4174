-- The lines that a report can have of a test, and of a script.
use Rattle.std.specs.Prelude.{◌≡◌, ℕ, ◌+◌, Bool, true, false, not, List, [], ◌∷◌, ◌++◌, Option, Some, None, length, codes, decimal, if◌then◌else◌}
use Rattle.std.specs.Fmt.{signed_decimal}
use Rattle.hex.specs.Hex.{encode_lower}
use Rattle.nextest_config_elements_choices.specs.declared.timeouts.FlakyResult.TheVariants as flaky_rule
use Rattle.nextest_config_elements_choices.specs.declared.timeouts.FlakyResult.{FlakyResult}
use Rattle.nextest_run_events_counters.specs.Rows.{Finished}
use Rattle.nextest_run_events_results.specs.Result.{is_success}
use Rattle.nextest_run_events_results.specs.declared.instance.OwnedTestInstanceId.{OwnedTestInstanceId}
use Rattle.nextest_run_events_results.specs.declared.record.Record.{Record}
use Rattle.nextest_run_events_results.specs.declared.record.RecordOutput.TheVariants as wrote
use Rattle.nextest_run_events_results.specs.declared.record.RecordOutput.{RecordOutput}
use Rattle.nextest_run_events_results.specs.declared.result.AbortDescription.TheVariants as aborted_by
use Rattle.nextest_run_events_results.specs.declared.result.ExecutionResultDescription.TheVariants as ended
use Rattle.nextest_run_events_results.specs.declared.result.ExecutionResultDescription.{ExecutionResultDescription}
use Rattle.nextest_run_events_results.specs.declared.result.FailureDescription.TheVariants as failed_by
use Rattle.nextest_run_events_results.specs.declared.result.FailureDescription.{FailureDescription}
use Rattle.nextest_run_events_slices.specs.Slices.{IsSlice, bytes_of_output}
use Rattle.nextest_run_events_slices.specs.declared.slices.ByteSubslice.{ByteSubslice}
use Rattle.nextest_run_events_slices.specs.declared.slices.TestOutputErrorSlice.TheVariants.{PanicMessage, ErrorStr, ShouldPanic}
use Rattle.nextest_run_events_slices.specs.declared.slices.TestOutputErrorSlice.{TestOutputErrorSlice}
use Rattle.test_runner_core_line_syntax.specs.Spelling.{line_of_fields, leak_word, timeout_word, leaked_suffix}
use Rattle.test_runner_core_run_model.specs.State.{TestState, finished_as, is_finished, last_record}
use Rattle.test_runner_core_report_lines.specs.declared.fate.ReportedFate.TheVariants as fates
use Rattle.test_runner_core_report_lines.specs.declared.fate.ReportedFate.{ReportedFate}

-- a test by its name, and how far it is
pub record NamedTest : Type 0 where
  pub name : OwnedTestInstanceId
  pub state : TestState

-- a line has its fields with a tab between each two, and a line feed behind them
abbrev pub line : List (List ℕ) → List ℕ
line fields = line_of_fields fields ++ 10 ∷ []

-- a success that came late
abbrev pub late_fate : FlakyResult → ReportedFate
late_fate flaky_rule.Pass = fates.Flaky
late_fate flaky_rule.Fail = fates.FlakyFail

-- what a finished test came to
abbrev pub fate_after : Finished → ReportedFate
fate_after test =
    if not (is_success test.result) then fates.Fail
    else if test.late then late_fate test.flaky
    else fates.Pass

-- by the last record of a test, if it has one
abbrev pub fate_by : TestState → Option Record → ReportedFate
fate_by test None = fates.NotRun
fate_by test (Some ending) = if is_finished test then fate_after (finished_as test ending) else fates.Unfinished

-- what became of a test
abbrev pub fate_of : TestState → ReportedFate
fate_of test = fate_by test (last_record test.records)

-- FATE
abbrev pub fate_word : ReportedFate → List ℕ
fate_word fates.NotRun = codes "not-run"
fate_word fates.Unfinished = codes "unfinished"
fate_word fates.Fail = codes "fail"
fate_word fates.Pass = codes "pass"
fate_word fates.Flaky = codes "flaky"
fate_word fates.FlakyFail = codes "flaky-fail"

-- how many attempts ended, of how many tries
abbrev pub tries_text : TestState → List ℕ
tries_text test = decimal (length test.records) ++ (codes "/" ++ decimal test.plan.tries)

-- a line of this kind: which test it is, what became of it, and its tries
abbrev pub test_line : List ℕ → NamedTest → List ℕ
test_line kind test = line (kind ∷ test.name.binary_id ∷ test.name.test_name ∷ fate_word (fate_of test.state) ∷ tries_text test.state ∷ [])

-- a failure: as a log spells it where it does, and else in the same words
abbrev pub failure_text : FailureDescription → List ℕ
failure_text (failed_by.ExitCode code) = codes "fail:" ++ signed_decimal code
failure_text (failed_by.Abort (aborted_by.UnixSignal signal name)) = codes "abort:" ++ signed_decimal signal
failure_text (failed_by.Abort (aborted_by.WindowsNtStatus code message)) = codes "abort:nt:" ++ signed_decimal code
failure_text (failed_by.Abort aborted_by.WindowsJobObject) = codes "abort:job-object"

-- RESULT
abbrev pub result_text : ExecutionResultDescription → List ℕ
result_text ended.Pass = codes "pass"
result_text (ended.Leak judged) = codes "leak:" ++ leak_word judged
result_text (ended.Fail failure leaked) = failure_text failure ++ leaked_suffix leaked
result_text ended.ExecFail = codes "exec-fail"
result_text (ended.Timeout judged) = codes "timeout:" ++ timeout_word judged

-- SLOW
abbrev pub slow_word : Bool → List ℕ
slow_word true = codes "slow"
slow_word false = codes "-"

-- how an attempt or a script ended: its result, whether it was slow, and how long it took
abbrev pub end_by : ExecutionResultDescription → Bool → ℕ → List ℕ
end_by result slow nanos = line_of_fields (result_text result ∷ slow_word slow ∷ decimal nanos ∷ [])

abbrev pub end_text : Record → List ℕ
end_text ending = end_by ending.result ending.slow ending.nanos

-- the line of an attempt with this number
abbrev pub try_line : ℕ → Record → List ℕ
try_line number ending = line (codes "try" ∷ decimal number ∷ end_text ending ∷ [])

-- the lines of attempts that follow one another, the first of which has this number
abbrev pub try_lines : ℕ → List Record → List ℕ
try_lines number [] = []
try_lines number (ending ∷ records) = try_line number ending ++ try_lines (number + 1) records

-- what a stream wrote, behind its word, where it was captured
abbrev pub stream_line : List ℕ → Option (List ℕ) → List ℕ
stream_line word None = []
stream_line word (Some bytes) = line (word ∷ encode_lower bytes ∷ [])

-- why an attempt could not be started
abbrev pub message_line : RecordOutput → List ℕ
message_line (wrote.Streams out err) = []
message_line (wrote.Message message) = line (codes "error" ∷ encode_lower message ∷ [])

-- what it wrote to standard output, where that was captured
abbrev pub out_of : RecordOutput → Option (List ℕ)
out_of (wrote.Streams out err) = out
out_of (wrote.Message message) = None

-- and to standard error
abbrev pub err_of : RecordOutput → Option (List ℕ)
err_of (wrote.Streams out err) = err
err_of (wrote.Message message) = None

-- all that it wrote, or why it could not be started
abbrev pub written_text : RecordOutput → List ℕ
written_text output = stream_line (codes "out") (out_of output) ++ (stream_line (codes "err") (err_of output) ++ message_line output)

-- where a part of an output stands
abbrev pub part_line : List ℕ → ByteSubslice → List ℕ
part_line kind part = line (codes "slice" ∷ kind ∷ decimal part.start ∷ decimal (length part.slice.now) ∷ [])

abbrev pub slice_line : Option TestOutputErrorSlice → List ℕ
slice_line None = []
slice_line (Some (PanicMessage part)) = part_line (codes "panic") part
slice_line (Some (ErrorStr part)) = part_line (codes "error") part
slice_line (Some (ShouldPanic part)) = part_line (codes "should-panic") part

-- the part of an output that reports of the error; none of a success
abbrev pub IsShownSlice : Bool → RecordOutput → Option TestOutputErrorSlice → Type 0
IsShownSlice true output slice = slice ≡ None
IsShownSlice false output slice = IsSlice (bytes_of_output (out_of output)) (bytes_of_output (err_of output)) slice

-- the outputs of an attempt
abbrev pub IsOutputs : Record → List ℕ → Type 0
IsOutputs ending text = (slice : Option TestOutputErrorSlice) × IsShownSlice (is_success ending.result) ending.output slice × (text ≡ written_text ending.output ++ slice_line slice)

-- how a script ended, if it did
abbrev pub script_end : Option Record → List ℕ
script_end None = codes "not-run"
script_end (Some ending) = end_text ending

-- the line of a script with this id
abbrev pub script_line : List ℕ → Option Record → List ℕ
script_line id ending = line (codes "script" ∷ id ∷ script_end ending ∷ [])

-- its outputs, where it ended and is no success
abbrev pub script_outputs : Option Record → List ℕ
script_outputs None = []
script_outputs (Some ending) = if is_success ending.result then [] else written_text ending.output

-- what the final text says of a script with this id
abbrev pub script_text : List ℕ → Option Record → List ℕ
script_text id ending = script_line id ending ++ script_outputs ending

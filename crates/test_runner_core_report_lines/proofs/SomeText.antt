-- It can't be that a test has no text.
use Rattle.std.proofs.Common.{ℕ, Bool, true, false, List, [], ◌++◌, Option, Some, None, refl}
use Rattle.std.specs.Prelude.{◌||◌, codes, if◌then◌else◌}
use Rattle.nextest_run_events_results.specs.Result.{is_success}
use Rattle.nextest_run_events_results.specs.declared.record.Record.{Record}
use Rattle.nextest_run_events_results.specs.declared.record.RecordOutput.{RecordOutput}
use Rattle.nextest_run_events_slices.proofs.SomeSlice.{some_slice}
use Rattle.nextest_run_events_slices.specs.Slices.{bytes_of_output}
use Rattle.nextest_run_events_slices.specs.declared.slices.TestOutputErrorSlice.{TestOutputErrorSlice}
use Rattle.nextest_run_events_visibility.specs.declared.visibility.OutputOnTestFinished.{OutputOnTestFinished}
use Rattle.nextest_run_events_visibility.specs.declared.visibility.OutputStoreFinal.{OutputStoreFinal}
use Rattle.nextest_run_events_visibility.specs.declared.visibility.OutputStoreFinal.TheVariants as kept
use Rattle.test_runner_core_run_model.specs.State.{last_record}
use Rattle.test_runner_core_report_lines.specs.Due.{due_of}
use Rattle.test_runner_core_report_lines.specs.Laws.{HasSomeDone, HasSomeShown}
use Rattle.test_runner_core_report_lines.specs.Report.{IsDoneBy, IsShownBy, IsShownOutputs, kept_of}
use Rattle.test_runner_core_report_lines.specs.Texts.{IsShownSlice, NamedTest, err_of, out_of, slice_line, test_line, try_lines, written_text}

some_told_slice : (ok : Bool) (output : RecordOutput) → ¬ ¬ ((slice : Option TestOutputErrorSlice) × IsShownSlice ok output slice)
some_told_slice true output never = never (None, refl)
some_told_slice false output never = some_slice (bytes_of_output (out_of output)) (bytes_of_output (err_of output)) never

some_outputs : (shown : Bool) (told : Option Record) → ¬ ¬ ((text : List ℕ) × IsShownOutputs shown told text)
some_outputs true (Some told) never =
    some_told_slice (is_success told.result) told.output (λ (slice, is). never (written_text told.output ++ slice_line slice, (slice, is, refl)))
some_outputs true None never = never ([], refl)
some_outputs false None never = never ([], refl)
some_outputs false (Some told) never = never ([], refl)

some_done_by : (due : Option OutputOnTestFinished) (test : NamedTest) → ¬ ¬ ((text : List ℕ) × IsDoneBy due test text)
some_done_by None test never = never ([], refl)
some_done_by (Some due) test never =
    some_outputs due.show_immediate (last_record test.state.records) (λ (outputs, are).
    never ((if due.write_status_line || due.show_immediate then test_line (codes "done") test else []) ++ outputs, (outputs, are, refl)))

some_shown_by : (stored : OutputStoreFinal) (test : NamedTest) → ¬ ¬ ((text : List ℕ) × IsShownBy stored test text)
some_shown_by kept.No test never = never ([], refl)
some_shown_by (kept.Yes display_output) test never =
    some_outputs display_output (last_record test.state.records) (λ (outputs, are). never (test_line (codes "test") test ++ (try_lines 1 test.state.records ++ outputs), (outputs, are, refl)))

-- as it finishes
pub some_done : HasSomeDone
some_done shows test = some_done_by (due_of shows test.state) test

-- and in the final text
pub some_shown : HasSomeShown
some_shown shows test = some_shown_by (kept_of (due_of shows test.state)) test

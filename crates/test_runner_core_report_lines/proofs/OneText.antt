-- A test has one text.
use Rattle.std.proofs.Common.{◌≡◌, ℕ, Bool, true, false, List, [], ◌∷◌, ◌++◌, Option, Some, None, length, refl, sym, ap, ◌∙◌}
use Rattle.std.specs.Prelude.{◌||◌, codes, decimal, if◌then◌else◌}
use Rattle.nextest_run_events_results.specs.Result.{is_success}
use Rattle.nextest_run_events_results.specs.declared.record.Record.{Record}
use Rattle.nextest_run_events_results.specs.declared.record.RecordOutput.{RecordOutput}
use Rattle.nextest_run_events_slices.proofs.OneSlice.{same_slice}
use Rattle.nextest_run_events_slices.specs.Laws.{IsSamePart, IsSameSlice}
use Rattle.nextest_run_events_slices.specs.Slices.{bytes_of_output}
use Rattle.nextest_run_events_slices.specs.declared.slices.ByteSubslice.{ByteSubslice}
use Rattle.nextest_run_events_slices.specs.declared.slices.TestOutputErrorSlice.{TestOutputErrorSlice}
use Rattle.nextest_run_events_slices.specs.declared.slices.TestOutputErrorSlice.TheVariants.{PanicMessage, ErrorStr, ShouldPanic}
use Rattle.nextest_run_events_visibility.specs.declared.visibility.OutputOnTestFinished.{OutputOnTestFinished}
use Rattle.nextest_run_events_visibility.specs.declared.visibility.OutputStoreFinal.{OutputStoreFinal}
use Rattle.nextest_run_events_visibility.specs.declared.visibility.OutputStoreFinal.TheVariants as kept
use Rattle.test_runner_core_run_model.specs.State.{last_record}
use Rattle.test_runner_core_report_lines.specs.Due.{due_of}
use Rattle.test_runner_core_report_lines.specs.Laws.{HasOneDone, HasOneShown}
use Rattle.test_runner_core_report_lines.specs.Report.{IsDoneBy, IsShownBy, IsShownOutputs, kept_of}
use Rattle.test_runner_core_report_lines.specs.Texts.{NamedTest, IsOutputs, IsShownSlice, err_of, line, out_of, part_line, slice_line, test_line, try_lines, written_text}

one_part : (kind : List ℕ) (one other : ByteSubslice) → IsSamePart one other → part_line kind one ≡ part_line kind other
one_part kind one other same =
    ap (λ (start : ℕ). part_of start one.slice.now) same.0 ∙ ap (λ (bytes : List ℕ). part_of other.start bytes) same.1
  where
    part_of : ℕ → List ℕ → List ℕ
    part_of start bytes = line (codes "slice" ∷ kind ∷ decimal start ∷ decimal (length bytes) ∷ [])

one_line : (one other : Option TestOutputErrorSlice) → IsSameSlice one other → slice_line one ≡ slice_line other
one_line (Some (PanicMessage one)) (Some (PanicMessage other)) same = one_part (codes "panic") one other same
one_line (Some (ErrorStr one)) (Some (ErrorStr other)) same = one_part (codes "error") one other same
one_line (Some (ShouldPanic one)) (Some (ShouldPanic other)) same = one_part (codes "should-panic") one other same
one_line None None same = refl
one_line (Some (PanicMessage one)) (Some (ErrorStr other)) same = absurd same
one_line (Some (PanicMessage one)) (Some (ShouldPanic other)) same = absurd same
one_line (Some (PanicMessage one)) None same = absurd same
one_line (Some (ErrorStr one)) (Some (PanicMessage other)) same = absurd same
one_line (Some (ErrorStr one)) (Some (ShouldPanic other)) same = absurd same
one_line (Some (ErrorStr one)) None same = absurd same
one_line (Some (ShouldPanic one)) (Some (PanicMessage other)) same = absurd same
one_line (Some (ShouldPanic one)) (Some (ErrorStr other)) same = absurd same
one_line (Some (ShouldPanic one)) None same = absurd same
one_line None (Some (PanicMessage other)) same = absurd same
one_line None (Some (ErrorStr other)) same = absurd same
one_line None (Some (ShouldPanic other)) same = absurd same

one_slice : (success : Bool) (output : RecordOutput) (one other : Option TestOutputErrorSlice) → IsShownSlice success output one → IsShownSlice success output other → slice_line one ≡ slice_line other
one_slice true output one other first second = ap slice_line (first ∙ sym second)
one_slice false output one other first second = one_line one other (same_slice (bytes_of_output (out_of output)) (bytes_of_output (err_of output)) one other first second)

one_outputs : (told : Record) (one other : List ℕ) → IsOutputs told one → IsOutputs told other → one ≡ other
one_outputs told one other first second =
    first.2 ∙ ap (λ (text : List ℕ). written_text told.output ++ text) (one_slice (is_success told.result) told.output first.0 second.0 first.1 second.1) ∙ sym second.2

one_shown_outputs : (is_shown : Bool) (told : Option Record) (one other : List ℕ) → IsShownOutputs is_shown told one → IsShownOutputs is_shown told other → one ≡ other
one_shown_outputs true (Some told) one other first second = one_outputs told one other first second
one_shown_outputs true None one other first second = first ∙ sym second
one_shown_outputs false (Some told) one other first second = first ∙ sym second
one_shown_outputs false None one other first second = first ∙ sym second

done_by : (due : Option OutputOnTestFinished) (test : NamedTest) (one other : List ℕ) → IsDoneBy due test one → IsDoneBy due test other → one ≡ other
done_by None test one other first second = first ∙ sym second
done_by (Some due) test one other first second =
    let same = one_shown_outputs due.show_immediate (last_record test.state.records) first.0 second.0 first.1 second.1 in
    first.2 ∙ ap (λ (outputs : List ℕ). (if due.write_status_line || due.show_immediate then test_line (codes "done") test else []) ++ outputs) same ∙ sym second.2

shown_by : (store : OutputStoreFinal) (test : NamedTest) (one other : List ℕ) → IsShownBy store test one → IsShownBy store test other → one ≡ other
shown_by kept.No test one other first second = first ∙ sym second
shown_by (kept.Yes display_output) test one other first second =
    let same = one_shown_outputs display_output (last_record test.state.records) first.0 second.0 first.1 second.1 in
    first.2 ∙ ap (λ (outputs : List ℕ). test_line (codes "test") test ++ (try_lines 1 test.state.records ++ outputs)) same ∙ sym second.2

pub one_done : HasOneDone
one_done shows test one other first second = done_by (due_of shows test.state) test one other first second

pub one_shown : HasOneShown
one_shown shows test one other first second = shown_by (kept_of (due_of shows test.state)) test one other first second

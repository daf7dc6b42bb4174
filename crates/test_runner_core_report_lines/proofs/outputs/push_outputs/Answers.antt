use Rattle.std.proofs.Common.{ℕ, List, ◌++◌, refl, ap, ◌∙◌, append_assoc, string_bytes}
use Rattle.std.proofs.lemmas.Result.{on_ok_weaker}
use Rattle.nextest_run_events_results.specs.declared.record.RecordOutput.{RecordOutput}
use Rattle.test_runner_core_report_lines.specs.Texts.{slice_line, written_text}
use Rattle.test_runner_core_report_lines.proofs.outputs.push_outputs.Goals as goal

pub returns-clause-ok : goal.returns-clause-ok
returns-clause-ok c =
    let slice = c.slice_of.result in
    let written = written_text c.args.ended.now.output in
    on_ok_weaker c.push_slice.result
    (λ grown. (
      written ++ slice_line slice,
      (slice, c.slice_of.ensures, refl),
      grown ∙ ap (λ (t : List ℕ). t ++ slice_line slice) (c.in_ok-push_written.ensures.ok ∙ ap (λ (o : RecordOutput). string_bytes c.args.text.now ++ written_text o) c.in_record.ensures) ∙ append_assoc (string_bytes c.args.text.now) written (slice_line slice),
    ))
    c.push_slice.ensures.ok

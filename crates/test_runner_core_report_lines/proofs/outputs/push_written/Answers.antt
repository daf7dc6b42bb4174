use Rattle.std.proofs.Common.{◌≡◌, ℕ, List, Option, ◌++◌, ap, ◌∙◌, append_assoc, string_bytes}
use Rattle.std.specs.Prelude.{codes, option_copied}
use Rattle.std.proofs.lemmas.Result.{IfOk-from_err, on_ok_weaker}
use Rattle.nextest_run_events_results.specs.declared.record.RecordOutput.{RecordOutput}
use Rattle.test_runner_core_report_lines.proofs.Fronts.{extends_then}
use Rattle.test_runner_core_report_lines.specs.Texts.{err_of, message_line, out_of, stream_line, written_text}
use Rattle.test_runner_core_report_lines.specs.Written.{written_meant}
use Rattle.test_runner_core_report_lines.proofs.outputs.push_written.Goals as goal

parts_grown : (old out err message first second new : List ℕ) → first ≡ old ++ out → second ≡ first ++ err → new ≡ second ++ message
    → new ≡ old ++ (out ++ (err ++ message))
parts_grown old out err message first second new one two three =
    three ∙ ap (λ (t : List ℕ). t ++ message) (two ∙ ap (λ (t : List ℕ). t ++ err) one) ∙ simp append_assoc

written_grown : (told : RecordOutput) (out err : Option (List ℕ)) (old first second new : List ℕ) → out ≡ out_of told → err ≡ err_of told
    → first ≡ old ++ stream_line (codes "out") out → second ≡ first ++ stream_line (codes "err") err → new ≡ second ++ message_line told
    → new ≡ old ++ written_text told
written_grown told out err old first second new is_out is_err one two three =
    parts_grown old (stream_line (codes "out") (out_of told)) (stream_line (codes "err") (err_of told)) (message_line told) first second new
    (one ∙ ap (λ (o : Option (List ℕ)). old ++ stream_line (codes "out") o) is_out)
    (two ∙ ap (λ (e : Option (List ℕ)). first ++ stream_line (codes "err") e) is_err)
    three

pub returns-in_err-push_stream-clause-ok : goal.returns-in_err-push_stream-clause-ok
returns-in_err-push_stream-clause-ok c = IfOk-from_err c.from_residual.result _ c.from_residual.ensures.0

pub returns-in_err-push_stream-clause-grows : goal.returns-in_err-push_stream-clause-grows
returns-in_err-push_stream-clause-grows c = c.push_stream.ensures.grows

pub returns-in_err-push_stream-2-clause-ok : goal.returns-in_err-push_stream-2-clause-ok
returns-in_err-push_stream-2-clause-ok c =
    IfOk-from_err c.from_residual-in_err-push_stream-2.result _ c.from_residual-in_err-push_stream-2.ensures.0

pub returns-in_err-push_stream-2-clause-grows : goal.returns-in_err-push_stream-2-clause-grows
returns-in_err-push_stream-2-clause-grows c = extends_then _ _ _ c.push_stream.ensures.grows c.push_stream-2.ensures.grows

pub returns-clause-ok : goal.returns-clause-ok
returns-clause-ok c =
    on_ok_weaker c.push_message.result
    (written_grown (written_meant c.args.written) (option_copied c.out.result) (option_copied c.err.result) (string_bytes c.args.text.now) _ _ (string_bytes c.push_message.new.text) c.out.ensures c.err.ensures c.in_ok-push_stream.ensures.ok c.in_ok-push_stream-2.ensures.ok)
    c.push_message.ensures.ok

pub returns-clause-grows : goal.returns-clause-grows
returns-clause-grows c =
    extends_then _ _ _ (extends_then _ _ _ c.push_stream.ensures.grows c.push_stream-2.ensures.grows) c.push_message.ensures.grows

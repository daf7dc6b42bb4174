use Rattle.std.proofs.Common.{◌≡◌, ℕ, List, [], ◌∷◌, ◌++◌, ap, ◌∙◌, append_assoc, string_bytes}
use Rattle.std.proofs.lemmas.Result.{IfOk-from_err, on_ok_weaker}
use Rattle.hex.specs.Hex.{encode_lower}
use Rattle.test_runner_core_report_lines.proofs.Fronts.{extends_then}
use Rattle.test_runner_core_report_lines.specs.Texts.{line}
use Rattle.test_runner_core_report_lines.proofs.outputs.push_hex_line.Goals as goal

hex_line_grown : (old word hex first second third new : List ℕ)
    → first ≡ old ++ word → second ≡ first ++ 9 ∷ [] → third ≡ second ++ hex → new ≡ third ++ 10 ∷ []
    → new ≡ old ++ line (word ∷ hex ∷ [])
hex_line_grown old word hex first second third new one two three four =
    four ∙ ap (λ (t : List ℕ). t ++ 10 ∷ []) (three ∙ ap (λ (t : List ℕ). t ++ hex) (two ∙ ap (λ (t : List ℕ). t ++ 9 ∷ []) one)) ∙ simp append_assoc

pub returns-in_err-push_text-clause-ok : goal.returns-in_err-push_text-clause-ok
returns-in_err-push_text-clause-ok c = IfOk-from_err c.from_residual.result _ c.from_residual.ensures.0

pub returns-in_err-push_text-clause-grows : goal.returns-in_err-push_text-clause-grows
returns-in_err-push_text-clause-grows c = c.push_text.ensures.grows

pub returns-in_err-push_text-2-clause-ok : goal.returns-in_err-push_text-2-clause-ok
returns-in_err-push_text-2-clause-ok c =
    IfOk-from_err c.from_residual-in_err-push_text-2.result _ c.from_residual-in_err-push_text-2.ensures.0

pub returns-in_err-push_text-2-clause-grows : goal.returns-in_err-push_text-2-clause-grows
returns-in_err-push_text-2-clause-grows c = extends_then _ _ _ c.push_text.ensures.grows c.push_text-2.ensures.grows

pub returns-in_err-push_hex-clause-ok : goal.returns-in_err-push_hex-clause-ok
returns-in_err-push_hex-clause-ok c =
    IfOk-from_err c.from_residual-in_err-push_hex.result _ c.from_residual-in_err-push_hex.ensures.0

pub returns-in_err-push_hex-clause-grows : goal.returns-in_err-push_hex-clause-grows
returns-in_err-push_hex-clause-grows c =
    extends_then _ _ _ (extends_then _ _ _ c.push_text.ensures.grows c.push_text-2.ensures.grows) c.push_hex.ensures.grows

pub returns-clause-ok : goal.returns-clause-ok
returns-clause-ok c =
    on_ok_weaker c.push_feed.result
    (hex_line_grown (string_bytes c.args.text.now) c.args.word.now (encode_lower c.args.bytes.now) _ _ _ (string_bytes c.push_feed.new.text) c.in_ok-push_text.ensures.ok c.in_ok-push_text-2.ensures.ok c.in_ok-push_hex.ensures.ok)
    c.push_feed.ensures.ok

pub returns-clause-grows : goal.returns-clause-grows
returns-clause-grows c =
    let written = extends_then _ _ _ (extends_then _ _ _ c.push_text.ensures.grows c.push_text-2.ensures.grows) c.push_hex.ensures.grows in
    extends_then _ _ _ written c.push_feed.ensures.grows

use Rattle.std.proofs.Common.{◌≡◌, ℕ, List, [], ◌∷◌, ◌++◌, ap, ◌∙◌, append_assoc, string_bytes, length}
use Rattle.std.specs.Prelude.{codes, decimal}
use Rattle.std.proofs.lemmas.Result.{IfOk-from_err, on_ok_weaker}
use Rattle.test_runner_core_report_lines.proofs.Fronts.{extends_then}
use Rattle.test_runner_core_report_lines.proofs.outputs.push_part.Goals as goal

part_grown : (old word kind place first second third new : List ℕ)
    → first ≡ old ++ word → second ≡ first ++ 9 ∷ kind → third ≡ second ++ 9 ∷ place → new ≡ third ++ 10 ∷ []
    → new ≡ old ++ ((word ++ 9 ∷ (kind ++ 9 ∷ place)) ++ 10 ∷ [])
part_grown old word kind place first second third new one two three four =
    four ∙ ap (λ (t : List ℕ). t ++ 10 ∷ []) (three ∙ ap (λ (t : List ℕ). t ++ 9 ∷ place) (two ∙ ap (λ (t : List ℕ). t ++ 9 ∷ kind) one)) ∙ simp append_assoc

pub returns-in_err-push_text-clause-ok : goal.returns-in_err-push_text-clause-ok
returns-in_err-push_text-clause-ok c = IfOk-from_err c.from_residual.result _ c.from_residual.ensures.0

pub returns-in_err-push_text-clause-grows : goal.returns-in_err-push_text-clause-grows
returns-in_err-push_text-clause-grows c = c.push_text.ensures.grows

pub returns-in_err-push_field-clause-ok : goal.returns-in_err-push_field-clause-ok
returns-in_err-push_field-clause-ok c =
    IfOk-from_err c.from_residual-in_err-push_field.result _ c.from_residual-in_err-push_field.ensures.0

pub returns-in_err-push_field-clause-grows : goal.returns-in_err-push_field-clause-grows
returns-in_err-push_field-clause-grows c = extends_then _ _ _ c.push_text.ensures.grows c.push_field.ensures.grows

pub returns-in_err-push_place-clause-ok : goal.returns-in_err-push_place-clause-ok
returns-in_err-push_place-clause-ok c =
    IfOk-from_err c.from_residual-in_err-push_place.result _ c.from_residual-in_err-push_place.ensures.0

pub returns-in_err-push_place-clause-grows : goal.returns-in_err-push_place-clause-grows
returns-in_err-push_place-clause-grows c =
    extends_then _ _ _ (extends_then _ _ _ c.push_text.ensures.grows c.push_field.ensures.grows) c.push_place.ensures.grows

pub returns-clause-ok : goal.returns-clause-ok
returns-clause-ok c =
    let part = c.args.part in
    let place = decimal part.start ++ 9 ∷ decimal (length part.slice.now) in
    on_ok_weaker c.push_feed.result
    (part_grown (string_bytes c.args.text.now) (codes "slice") c.args.kind.now place _ _ _ (string_bytes c.push_feed.new.text) c.in_ok-push_text.ensures.ok c.in_ok-push_field.ensures.ok c.in_ok-push_place.ensures.ok)
    c.push_feed.ensures.ok

pub returns-clause-grows : goal.returns-clause-grows
returns-clause-grows c =
    let placed = extends_then _ _ _ (extends_then _ _ _ c.push_text.ensures.grows c.push_field.ensures.grows) c.push_place.ensures.grows in
    extends_then _ _ _ placed c.push_feed.ensures.grows

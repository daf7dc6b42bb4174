use Rattle.std.proofs.Common.{◌∷◌, List, ℕ, ap, ◌∙◌}
use Rattle.test_runner_core_line_syntax.proofs.Fields.{fields_first}
use Rattle.test_runner_core_line_syntax.proofs.reading.last_field.Goals as goal

pub returns-in-Some : goal.returns-in-Some
returns-in-Some c =
    let parts = c.in-Some.field-0 in
    let next = fields_first parts.1.now in
    (parts.0.now, next.0, next.1, c.in-Some.ensures ∙ ap (λ (fields : List (List ℕ)). parts.0.now ∷ fields) next.2)

use Rattle.std.proofs.Common.{◌∷◌, ℕ, List, subst, ap, ◌∙◌}
use Rattle.std.specs.Prelude.{codes}
use Rattle.test_runner_core_line_syntax.specs.Spelling.{SpellsFields}
use Rattle.test_runner_core_line_syntax.specs.Fields.{fields_of}
use Rattle.test_runner_core_line_syntax.proofs.Refusals.{end_without_record}
use Rattle.test_runner_core_line_syntax.proofs.reading.end_of.Goals as goal

pub returns-in_err-record : goal.returns-in_err-record
returns-in_err-record c = rw c.from_residual-in_err-record.ensures (λ told spelled.
    end_without_record c.in_ok-binary.binary.now c.in_ok-name.name.now (fields_of c.in_ok-name.after_name.now) c.in_err-record.ensures told
    (subst (λ (fields : List (List ℕ)). SpellsFields told (codes "end" ∷ fields))
    (c.in_ok-binary.ensures ∙ ap (λ (fields : List (List ℕ)). c.in_ok-binary.binary.now ∷ fields) c.in_ok-name.ensures) spelled))

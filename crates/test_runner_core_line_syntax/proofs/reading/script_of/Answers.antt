use Rattle.std.proofs.Common.{◌∷◌, ℕ, List, subst}
use Rattle.std.specs.Prelude.{codes}
use Rattle.test_runner_core_line_syntax.specs.Spelling.{SpellsFields}
use Rattle.test_runner_core_line_syntax.specs.Fields.{fields_of}
use Rattle.test_runner_core_line_syntax.proofs.Refusals.{script_without_record}
use Rattle.test_runner_core_line_syntax.proofs.reading.script_of.Goals as goal

pub returns-in_err-record : goal.returns-in_err-record
returns-in_err-record c = rw c.from_residual-in_err-record.ensures (λ told spelled.
    script_without_record c.in_ok-id.id.now (fields_of c.in_ok-id.after_id.now) c.in_err-record.ensures told
    (subst (λ (fields : List (List ℕ)). SpellsFields told (codes "script" ∷ fields)) c.in_ok-id.ensures spelled))

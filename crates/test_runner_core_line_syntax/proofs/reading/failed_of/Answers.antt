use Rattle.std.proofs.Common.{ℕ, List, ◌++◌, sym, ap, ◌∙◌}
use Rattle.std.specs.Prelude.{codes}
use Rattle.test_runner_core_line_syntax.proofs.Refusals.{no_leaked_failure}
use Rattle.test_runner_core_line_syntax.proofs.reading.failed_of.Goals as goal

pub returns-in_err-failure_of-in-Some : goal.returns-in_err-failure_of-in-Some
returns-in_err-failure_of-in-Some c =
    let stripped = c.in-Some.ensures.cases in
    rw c.from_residual.ensures (λ told spelled.
    no_leaked_failure c.args.field.now c.in-Some.text.now (stripped.1.1 ∙ ap (λ (front : List ℕ). front ++ codes ":leaked") (sym stripped.2))
    c.in_err-failure_of-in-Some.ensures told.0 told.1 spelled)

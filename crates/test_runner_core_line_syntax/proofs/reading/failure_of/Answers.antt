use Rattle.std.proofs.Common.{rules, ℕ, List, ◌++◌, sym, ap, ◌∙◌}
use Rattle.std.specs.Prelude.{FitsSigned, codes}
use Rattle.std.specs.Int.{w32}
use Rattle.std.proofs.Math.Facts.{to_z-of_z}
use Rattle.std.proofs.lemmas.Bool.{both_ways}
use Rattle.test_runner_core_line_syntax.proofs.Refusals.{zero_code, other_number}
use Rattle.test_runner_core_line_syntax.proofs.reading.failure_of.Goals as goal

pub returns-then-code-eq0 : goal.returns-then-code-eq0
returns-then-code-eq0 c =
    let stripped = c.in-Some.ensures.cases in
    let fits : FitsSigned w32 c.in_ok-code.code = search rules in
    zero_code c.args.text.now c.in-Some.digits.now c.in_ok-code.code
    (stripped.1.1 ∙ ap (λ (rest : List ℕ). codes "fail:" ++ rest) (sym stripped.2)) c.in_ok-code.ensures.found fits c.if-code-eq0.true

pub returns-else-is_signal : goal.returns-else-is_signal
returns-else-is_signal c =
    let stripped = c.in_ok-strip_prefix.ensures.cases in
    let signal = c.in_ok-signal.signal in
    let fits : FitsSigned w32 signal = search rules in
    let tested = rw (to_z-of_z fits) at c.is_signal.ensures in
    other_number c.args.text.now c.in_ok-strip_prefix.field-0.now signal
    (stripped.1.1 ∙ ap (λ (rest : List ℕ). codes "abort:" ++ rest) (sym stripped.2)) c.in_ok-signal.ensures.found fits
    (λ is. both_ways c.is_signal.result c.if-is_signal.false (tested.1 is))

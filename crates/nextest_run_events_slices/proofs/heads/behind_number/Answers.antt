use Rattle.std.proofs.Common.{sym, ◌∙◌}
use Rattle.std.proofs.lemmas.Bool.{false≢true}
use Rattle.nextest_run_events_slices.proofs.Numbers.{number_behind, no_number_there, no_number_at_all}
use Rattle.nextest_run_events_slices.proofs.heads.behind_number.Goals as goal

pub returns-in_err-end : goal.returns-in_err-end
returns-in_err-end c = rw c.from_residual.ensures (no_number_at_all c.args.text.now c.in_err-end.ensures)

pub returns-then-is_number : goal.returns-then-is_number
returns-then-is_number c =
    number_behind c.args.text.now c.in_ok-end.end c.behind.result c.in_ok-end.ensures (c.is_number.ensures.0 c.if-is_number.true) c.behind.ensures

pub returns : goal.returns
returns c = λ rest begins.
    false≢true (sym c.if-is_number.false ∙ c.is_number.ensures.1 (no_number_there c.args.text.now c.in_ok-end.end c.in_ok-end.ensures rest begins).0)

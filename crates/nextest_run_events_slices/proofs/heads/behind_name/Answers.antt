use Rattle.std.proofs.Common.{sym, ◌∙◌}
use Rattle.std.proofs.lemmas.Bool.{false≢true}
use Rattle.nextest_run_events_slices.proofs.Names.{name_there, no_name_there, no_name_at_all, plain_before}
use Rattle.nextest_run_events_slices.proofs.heads.behind_name.Goals as goal

pub returns-in_err-end : goal.returns-in_err-end
returns-in_err-end c = rw c.from_residual.ensures (no_name_at_all c.args.text.now c.in_err-end.ensures)

pub returns-then-is_name : goal.returns-then-is_name
returns-then-is_name c =
    name_there c.args.text.now c.in_ok-end.end c.in_ok-end.ensures ((c.is_name.ensures (plain_before c.args.text.now c.in_ok-end.end c.in_ok-end.ensures)).0 c.if-is_name.true)

pub returns : goal.returns
returns c =
    no_name_there c.args.text.now c.in_ok-end.end c.in_ok-end.ensures
    (λ named. false≢true (sym c.if-is_name.false ∙ (c.is_name.ensures (plain_before c.args.text.now c.in_ok-end.end c.in_ok-end.ensures)).1 named))

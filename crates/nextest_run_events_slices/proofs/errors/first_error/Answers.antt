use Rattle.std.proofs.Common.{sym, ◌∙◌}
use Rattle.std.proofs.lemmas.Bool.{false≢true}
use Rattle.nextest_run_events_slices.proofs.ErrorLines.{error_behind, error_nowhere}
use Rattle.nextest_run_events_slices.proofs.errors.first_error.Goals as goal

pub returns-in_err-feed : goal.returns-in_err-feed
returns-in_err-feed c =
    rw c.from_residual.ensures
    (error_nowhere c.args.output.now (λ occurs. false≢true (sym c.if-starts_with_str.false ∙ c.starts_with_str.ensures.1 occurs)) c.in_err-feed.ensures)

pub returns : goal.returns
returns c =
    error_behind c.args.output.now (λ occurs. false≢true (sym c.if-starts_with_str.false ∙ c.starts_with_str.ensures.1 occurs)) c.in_ok-feed.feed c.in_ok-feed.ensures

use Rattle.std.proofs.Common.{sym, ◌∙◌}
use Rattle.std.proofs.lemmas.Bool.{false≢true}
use Rattle.nextest_run_events_slices.proofs.ErrorLines.{no_line_above, no_line_behind, line_there, no_line_there}
use Rattle.nextest_run_events_slices.proofs.panics.error_line_above.Goals as goal

pub returns-in_err-last : goal.returns-in_err-last
returns-in_err-last c = rw c.from_residual.ensures (no_line_above c.args.output.now c.args.at c.requires c.in_err-last.ensures)

pub returns-in_err-feed : goal.returns-in_err-feed
returns-in_err-feed c =
    rw c.from_residual-in_err-feed.ensures (no_line_behind c.args.output.now c.args.at c.requires c.in_ok-last.last c.in_ok-last.ensures c.in_err-feed.ensures)

pub returns-then-starts_with_str : goal.returns-then-starts_with_str
returns-then-starts_with_str c =
    line_there c.args.output.now c.args.at c.requires c.in_ok-last.last c.in_ok-last.ensures c.in_ok-feed.feed c.in_ok-feed.ensures
    (c.starts_with_str.ensures.0 c.if-starts_with_str.true)

pub returns : goal.returns
returns c =
    no_line_there c.args.output.now c.args.at c.requires c.in_ok-last.last c.in_ok-last.ensures c.in_ok-feed.feed c.in_ok-feed.ensures
    (λ occurs. false≢true (sym c.if-starts_with_str.false ∙ c.starts_with_str.ensures.1 occurs))

use Rattle.nextest_run_events_slices.proofs.LineStarts.{no_line_start, line_start_there}
use Rattle.nextest_run_events_slices.proofs.panics.next_line_start.Goals as goal

pub returns-in_err-feed : goal.returns-in_err-feed
returns-in_err-feed c = rw c.from_residual.ensures (no_line_start c.args.output.now c.args.from c.requires.some c.in_err-feed.ensures)

pub returns : goal.returns
returns c = line_start_there c.args.output.now c.args.from c.requires.some c.in_ok-feed.feed c.in_ok-feed.ensures

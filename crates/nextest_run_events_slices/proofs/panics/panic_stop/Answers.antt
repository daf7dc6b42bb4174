use Rattle.nextest_run_events_slices.proofs.Taken.{no_panic, panic_there}
use Rattle.nextest_run_events_slices.proofs.panics.panic_stop.Goals as goal

pub returns-in_err-rest : goal.returns-in_err-rest
returns-in_err-rest c = rw c.from_residual.ensures (no_panic c.args.output.now c.args.at c.in_err-rest.ensures)

pub returns : goal.returns
returns c = panic_there c.args.output.now c.args.at c.in_ok-rest.rest.now c.requires.line c.requires.within c.in_ok-rest.ensures

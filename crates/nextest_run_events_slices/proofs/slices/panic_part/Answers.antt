use Rattle.nextest_run_events_slices.proofs.Parts.{none_taken, last_within, start_within}
use Rattle.nextest_run_events_slices.proofs.slices.panic_part.Goals as goal

pub returns-in_err-at : goal.returns-in_err-at
returns-in_err-at c = rw c.from_residual.ensures (none_taken c.args.stderr.now c.in_err-at.ensures)

pub panic_slice_start-requires : goal.panic_slice_start-requires
panic_slice_start-requires c = last_within c.args.stderr.now c.in_ok-at.at c.in_ok-at.ensures

pub part_from-requires : goal.part_from-requires
part_from-requires c =
    start_within c.args.stderr.now c.in_ok-at.at c.panic_slice_start.result (last_within c.args.stderr.now c.in_ok-at.at c.in_ok-at.ensures) c.panic_slice_start.ensures

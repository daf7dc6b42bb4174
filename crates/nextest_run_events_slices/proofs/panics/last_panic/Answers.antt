use Rattle.nextest_run_events_slices.proofs.Taken.{IsWalked, walk_past, walk_over, walk_on, walk_end}
use Rattle.nextest_run_events_slices.proofs.panics.last_panic.Goals as goal
use Rattle.nextest_run_events_slices.proofs.panics.last_panic.Goals.{in-Some, in-None}

-- at the start of the next search, behind the panic message or without one
pub loop-stop-preserved : goal.loop-stop-preserved
loop-stop-preserved c =
    let output = c.args.output.now in
    let walked : IsWalked output c.match-panic_stop.from c.match-panic_stop.last =
    elim c.match-panic_stop.branch [
      | in-Some w ↦
          rw (w.from-is, w.last-is) (walk_over output c.loop-stop.at c.loop-stop.last c.loop-stop.invariant.2 w.in-Some.stop w.in-Some.ensures.1)
      | in-None w ↦ rw (w.from-is, w.last-is) (walk_past output c.loop-stop.at c.loop-stop.last c.loop-stop.invariant.2 w.in-None.ensures)
    ] in
    let next = c.in-Some-next_line_start.ensures in
    (next.1, next.2, walk_on output c.match-panic_stop.from c.match-panic_stop.last walked c.in-Some-next_line_start.start next.0 next.3)

pub returns-in-None-next_line_start : goal.returns-in-None-next_line_start
returns-in-None-next_line_start c =
    let output = c.args.output.now in
    let walked : IsWalked output c.match-panic_stop.from c.match-panic_stop.last =
    elim c.match-panic_stop.branch [
      | in-Some w ↦
          rw (w.from-is, w.last-is) (walk_over output c.loop-stop.at c.loop-stop.last c.loop-stop.invariant.2 w.in-Some.stop w.in-Some.ensures.1)
      | in-None w ↦ rw (w.from-is, w.last-is) (walk_past output c.loop-stop.at c.loop-stop.last c.loop-stop.invariant.2 w.in-None.ensures)
    ] in
    walk_end output c.match-panic_stop.from c.match-panic_stop.last walked c.in-None-next_line_start.ensures

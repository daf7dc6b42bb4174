-- what was found in the streams is the output's
use Rattle.nextest_run_events_errors.proofs.unit_error.slice_in.Goals as goal

pub returns-in-Split : goal.returns-in-Split
returns-in-Split c = rw (c.in-Split.is, ← c.bytes_in.ensures, ← c.bytes_in-in-Split.ensures) c.heuristic_extract.ensures.slice

pub returns-in-Combined : goal.returns-in-Combined
returns-in-Combined c = rw (c.in-Combined.is, ← c.buf.ensures) c.heuristic_extract-in-Combined.ensures.slice

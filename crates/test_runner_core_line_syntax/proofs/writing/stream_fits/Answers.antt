use Rattle.std.proofs.Common.{None, Some}
use Rattle.test_runner_core_line_syntax.proofs.Writable.{stream_spellable}
use Rattle.test_runner_core_line_syntax.proofs.writing.stream_fits.Goals as goal

pub returns-in-None : goal.returns-in-None
returns-in-None c = rw c.in-None.is (stream_spellable None tt)

pub returns-in-Some : goal.returns-in-Some
returns-in-Some c = rw c.in-Some.is (stream_spellable (Some c.in-Some.bytes) (rw c.as_slice.ensures at c.bytes_fit.ensures))

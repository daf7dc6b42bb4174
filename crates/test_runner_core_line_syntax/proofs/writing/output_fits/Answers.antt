use Rattle.test_runner_core_line_syntax.proofs.Writable.{streams_spellable}
use Rattle.test_runner_core_line_syntax.proofs.writing.output_fits.Goals as goal

pub returns-in-Streams : goal.returns-in-Streams
returns-in-Streams c = rw c.in-Streams.is (streams_spellable c.in-Streams.out c.in-Streams.err c.stream_fits.ensures c.stream_fits-in-Streams.ensures)

pub returns-in-Message : goal.returns-in-Message
returns-in-Message c = rw c.in-Message.is c.message_fits.ensures

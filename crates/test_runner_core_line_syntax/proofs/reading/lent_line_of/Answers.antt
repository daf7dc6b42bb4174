use Rattle.std.proofs.Common.{sym}
use Rattle.test_runner_core_line_syntax.specs.Lent.{line_meant}
use Rattle.test_runner_core_line_syntax.proofs.Lines.{no_feed_spelled, reads_line}
use Rattle.test_runner_core_line_syntax.proofs.Refusals.{feed_found, feed_none}
use Rattle.test_runner_core_line_syntax.proofs.reading.lent_line_of.Goals as goal

pub returns-then-is_some : goal.returns-then-is_some
returns-then-is_some c = λ told spells.
    let found = rw c.as_bytes.ensures.value at c.memchr.ensures in
    feed_found c.args.line.now c.memchr.result found (sym c.if-is_some.ensures) (no_feed_spelled told c.args.line.now spells)

pub returns : goal.returns
returns c =
    let found = rw c.as_bytes.ensures.value at c.memchr.ensures in
    reads_line line_meant c.fields_say.result c.args.line.now
    (feed_none c.args.line.now c.memchr.result found (sym c.if-is_some.ensures)) c.utf8.line c.fields_say.ensures

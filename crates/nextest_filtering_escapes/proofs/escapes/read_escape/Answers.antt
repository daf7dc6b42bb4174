use Rattle.std.proofs.Common.{sym}
use Rattle.nextest_filtering_escapes.proofs.Letters.{reads_end, reads_letter, reads_u_some, reads_u_none}
use Rattle.nextest_filtering_escapes.proofs.escapes.read_escape.Goals as goal

pub returns-in_default : goal.returns-in_default
returns-in_default c = reads_end c.args.behind.now (rw c.in_default.is at c.split_first.ensures)

pub returns-then-letter-ne117 : goal.returns-then-letter-ne117
returns-then-letter-ne117 c =
    let parts = rw c.in-Some.is at c.split_first.ensures in
    reads_letter c.args.behind.now c.in-Some.ahead.now c.in-Some.letter c.character_of.result parts.0 parts.1 c.if-letter-ne117.true (sym c.character_of.ensures)

pub returns-in-Some-read_unicode : goal.returns-in-Some-read_unicode
returns-in-Some-read_unicode c =
    let parts = rw c.in-Some.is at c.split_first.ensures in
    let begins = rw c.in-Some-read_unicode.is at c.read_unicode.ensures in
    reads_u_some c.args.behind.now c.in-Some.ahead.now c.in-Some-read_unicode.further.now c.in-Some.letter c.in-Some-read_unicode.character parts.1 c.if-letter-ne117.false begins

pub returns-in-None : goal.returns-in-None
returns-in-None c =
    let parts = rw c.in-Some.is at c.split_first.ensures in
    reads_u_none c.args.behind.now c.in-Some.ahead.now c.in-Some.letter parts.1 c.if-letter-ne117.false (rw c.in-None.is at c.read_unicode.ensures)

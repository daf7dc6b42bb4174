use Rattle.std.proofs.Common.{length}
use Rattle.std.specs.Prelude.{string_bytes, IsUtf8}
use Rattle.nextest_filtering_escapes.proofs.Readings.{Readable}
use Rattle.nextest_filtering_escapes.proofs.escapes.unescape.Given as goal

abbrev pub decreases-loop-plain : goal.decreases-loop-plain
decreases-loop-plain l = length l.rest

abbrev pub invariant-loop-plain : goal.invariant-loop-plain
invariant-loop-plain l = Readable l.raw l.rest (string_bytes l.text) l.bad × IsUtf8 l.rest

use Rattle.std.proofs.Common.{length}
use denote.Text.{Utf8}
use denote.Shadow.{shadow}
use Rattle.nextest_filtering_syntax.specs.Waiting.{Descends}
use Rattle.nextest_filtering_syntax.proofs.parser.descend.Given as goal

-- negations and `(` were read, and wait
abbrev pub invariant-loop-waiting : goal.invariant-loop-waiting
invariant-loop-waiting l = shadow (Utf8 l.rest) × Descends l.fn.stack l.fn.text l.stack l.rest

abbrev pub decreases-loop-waiting : goal.decreases-loop-waiting
decreases-loop-waiting l = length l.rest

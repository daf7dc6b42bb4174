use Rattle.std.proofs.Common.{◌≤◌, ◌+◌, length}
use Rattle.nextest_filtering_globs.proofs.Steps.{ReadTo}
use Rattle.nextest_filtering_globs.proofs.reading.read_tokens.Given as goal

abbrev pub invariant-loop-first : goal.invariant-loop-first
invariant-loop-first l = record {
  fits : l.depth + length l.left ≤ length l.text;
  read : ReadTo l.text l.tokens.items l.depth l.left;
}

abbrev pub decreases-loop-first : goal.decreases-loop-first
decreases-loop-first l = length l.left

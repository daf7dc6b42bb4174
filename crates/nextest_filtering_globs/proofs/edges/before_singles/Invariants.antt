use Rattle.std.proofs.Common.{◌≤◌, length}
use Rattle.nextest_filtering_globs.specs.Inside.{Leaves}
use Rattle.nextest_filtering_globs.proofs.edges.before_singles.Given as goal

abbrev pub invariant-loop-left : goal.invariant-loop-left
invariant-loop-left g l = record {
  within : length l.left ≤ length l.tokens;
  leaves : Leaves l.tokens (g.C.Character.codes l.text) l.left (g.C.Character.codes l.rest);
}

abbrev pub decreases-loop-left : goal.decreases-loop-left
decreases-loop-left g l = length l.left

use Rattle.std.proofs.Common.{List, ◌++◌, length}
use Rattle.nextest_filtering_globs.specs.declared.token.GlobToken.{GlobToken}
use Rattle.nextest_filtering_globs.specs.Inside.{AreSingle, Leaves}
use Rattle.nextest_filtering_globs.proofs.alternatives.before_word.Given as goal

abbrev pub invariant-loop-token : goal.invariant-loop-token
invariant-loop-token g l = record {
  singles : AreSingle l.left;
  leaves : (front : List GlobToken) → Leaves (front ++ l.word) (g.C.Character.codes l.text) (front ++ l.left) (g.C.Character.codes l.rest);
}

abbrev pub decreases-loop-token : goal.decreases-loop-token
decreases-loop-token g l = length l.left

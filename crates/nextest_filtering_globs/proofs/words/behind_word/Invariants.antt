use Rattle.std.proofs.Common.{length}
use Rattle.nextest_filtering_globs.specs.Inside.{AreSingle, GoesOn}
use Rattle.nextest_filtering_globs.proofs.words.behind_word.Given as goal

abbrev pub invariant-loop-token : goal.invariant-loop-token
invariant-loop-token g l = record {
  singles : AreSingle l.left;
  goes_on : GoesOn l.word (g.C.Character.codes l.text) l.left (g.C.Character.codes l.rest);
}

abbrev pub decreases-loop-token : goal.decreases-loop-token
decreases-loop-token g l = length l.left

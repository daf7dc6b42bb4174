use Rattle.std.proofs.Common.{length}
use Rattle.nextest_filtering_globs.specs.Inside.{Leaves}
use Rattle.nextest_filtering_globs.proofs.words.behind_words.Given as goal

abbrev pub invariant-loop-word : goal.invariant-loop-word
invariant-loop-word g l = Leaves l.tokens (g.C.Character.codes l.text) l.left (g.C.Character.codes l.rest)

abbrev pub decreases-loop-word : goal.decreases-loop-word
decreases-loop-word g l = length l.left

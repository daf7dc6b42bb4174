use Rattle.std.proofs.Common.{length}
use Rattle.nextest_filtering_globs.specs.Inside.{IsAhead}
use Rattle.nextest_filtering_globs.proofs.words.behind_found.Given as goal

abbrev pub invariant-loop-behind : goal.invariant-loop-behind
invariant-loop-behind g l = IsAhead l.word (g.C.Character.codes l.text) (g.C.Character.codes l.rest)

abbrev pub decreases-loop-behind : goal.decreases-loop-behind
decreases-loop-behind g l = length l.rest

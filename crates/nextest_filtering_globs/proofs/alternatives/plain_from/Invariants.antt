use Rattle.std.proofs.Common.{drop}
use Rattle.nextest_filtering_globs.specs.Inside.{ArePlain}
use Rattle.nextest_filtering_globs.proofs.alternatives.plain_from.Given as goal

abbrev pub invariant-loop-place : goal.invariant-loop-place
invariant-loop-place l = ArePlain (drop l.place l.tokens)

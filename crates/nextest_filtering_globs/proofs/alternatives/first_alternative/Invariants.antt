use Rattle.std.proofs.Common.{take}
use Rattle.nextest_filtering_globs.specs.Inside.{AreSingle}
use Rattle.nextest_filtering_globs.proofs.alternatives.first_alternative.Given as goal

abbrev pub invariant-loop-place : goal.invariant-loop-place
invariant-loop-place l = AreSingle (take l.place l.tokens)

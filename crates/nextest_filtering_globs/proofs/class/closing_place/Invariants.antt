use Rattle.std.proofs.Common.{take}
use Rattle.nextest_filtering_globs.specs.Syntax.{IsUnclosed}
use Rattle.nextest_filtering_globs.proofs.class.closing_place.Given as goal

abbrev pub invariant-loop-place : goal.invariant-loop-place
invariant-loop-place l = IsUnclosed (take l.place l.text)

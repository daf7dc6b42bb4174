use Rattle.std.proofs.Common.{◌≡◌, drop}
use Rattle.nextest_filtering_globs.specs.Inside.{is_in_some}
use Rattle.nextest_filtering_globs.proofs.fitting.is_in_some.Given as goal

abbrev pub invariant-loop-range : goal.invariant-loop-range
invariant-loop-range l = is_in_some l.c l.ranges ≡ is_in_some l.c (drop l.range-index l.ranges)

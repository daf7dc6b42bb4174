use Rattle.std.proofs.Common.{◌≡◌, ◌++◌, take, drop}
use Rattle.nextest_filtering_globs.specs.Inside.{either_of}
use Rattle.nextest_filtering_globs.proofs.places.join.Given as goal

abbrev pub invariant-loop-place : goal.invariant-loop-place
invariant-loop-place l = either_of l.initial.places l.others
    ≡ take l.place l.places ++ either_of (drop l.place l.places) (drop l.place l.others)

use Rattle.std.proofs.Common.{◌≡◌, false, ◌++◌, take, drop}
use Rattle.nextest_filtering_globs.specs.Inside.{later}
use Rattle.nextest_filtering_globs.proofs.places.first_place.Given as goal

abbrev pub invariant-loop-place : goal.invariant-loop-place
invariant-loop-place l = later false l.places ≡ take l.place l.places ++ later false (drop l.place l.places)

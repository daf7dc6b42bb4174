use Rattle.std.proofs.Common.{◌≡◌, false, ◌++◌, take, drop}
use Rattle.nextest_filtering_globs.specs.Inside.{fits, next_places}
use Rattle.nextest_filtering_globs.proofs.places.advance_fitting.Given as goal

abbrev pub invariant-loop-place : goal.invariant-loop-place
invariant-loop-place l = next_places (fits l.token) false l.text l.initial.places
    ≡ take l.place l.places ++ next_places (fits l.token) l.carried (drop l.place l.text) (drop l.place l.places)

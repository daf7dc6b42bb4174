use Rattle.std.proofs.Common.{◌≡◌, ◌+◌, ◌==◌, false, ◌++◌, take, drop}
use Rattle.nextest_filtering_globs.specs.Inside.{next_places}
use Rattle.nextest_filtering_globs.proofs.places.advance_letter.Given as goal

abbrev pub invariant-loop-place : goal.invariant-loop-place
invariant-loop-place l = next_places (λ c. c == l.letter) false l.text l.initial.places
    ≡ next_places (λ c. c == l.letter) false (take l.place l.text) l.places ++ drop (l.place + 1) l.places

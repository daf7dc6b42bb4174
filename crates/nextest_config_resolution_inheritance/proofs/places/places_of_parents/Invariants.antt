use Rattle.std.proofs.Common.{◌≡◌, ℕ, ◌<◌, get_or, vec_len}
use Rattle.nextest_config_resolution_inheritance.specs.Inheritance.{profile_at}
use Rattle.nextest_config_resolution_inheritance.specs.Inherits.{parents_in}
use Rattle.nextest_config_resolution_inheritance.specs.Places.{IsPlaceOf}
use Rattle.nextest_config_resolution_inheritance.proofs.places.places_of_parents.Given as goal

abbrev pub invariant-loop-profile : goal.invariant-loop-profile
invariant-loop-profile g l =
    (vec_len l.places ≡ l.profile-index)
    × ((k : ℕ) → k < l.profile-index → IsPlaceOf (parents_in g.P.Inherits.name_of g.P.Inherits.parent_of l.profiles) (profile_at (parents_in g.P.Inherits.name_of g.P.Inherits.parent_of l.profiles) k).1 (get_or l.places.items k 0))

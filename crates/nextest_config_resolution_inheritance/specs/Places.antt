-- The parents of profiles by their places.
use Rattle.std.specs.Prelude.{◌≡◌, ◌≢◌, ℕ, zero, suc, ◌<◌, ◌≤◌, List, Option, None, Some, length, slice_index_or}
use Rattle.nextest_config_resolution_inheritance.specs.Inheritance.{Name, Parents, name_at, profile_at}

-- the place of a parent, or one past the end where none is set
abbrev pub IsPlaceOf : Parents → Option Name → ℕ → Type 0
IsPlaceOf profiles None place = place ≡ length profiles
IsPlaceOf profiles (Some parent) place = (place < length profiles) × (name_at profiles place ≡ parent)

-- the places of all parents
pub record ArePlaces (profiles : Parents) (places : List ℕ) : Type 0 where
  pub each : length places ≡ length profiles
  pub placed : (k : ℕ) → k < length profiles → IsPlaceOf profiles (profile_at profiles k).1 (slice_index_or places k 0)

-- n steps from a place to that of the parent
abbrev pub after : List ℕ → ℕ → ℕ → ℕ
after parents zero place = place
after parents (suc n) place = after parents n (slice_index_or parents place (length parents))

-- the steps from a place come past the end
abbrev pub Leaves : List ℕ → ℕ → Type 0
Leaves parents place = (n : ℕ) × (length parents ≤ after parents n place)

-- all leave, or the first that doesn't
abbrev pub IsFirstEndless : List ℕ → Option ℕ → Type 0
IsFirstEndless parents None = (place : ℕ) → place < length parents → Leaves parents place
IsFirstEndless parents (Some place) = (place < length parents) × ¬ Leaves parents place × ((k : ℕ) → k < place → Leaves parents k)

-- the walks so far began below a place, and each place that they came by leaves; elsewhere stands
-- the number of all places
abbrev pub AreKnown : List ℕ → List ℕ → ℕ → Type 0
AreKnown parents walks start = (place : ℕ) → place < length parents → slice_index_or walks place 0 ≢ length parents
    → (slice_index_or walks place 0 < start) × Leaves parents place

-- Where something stands that may not stand there.
use Rattle.std.specs.Prelude.{◌≡◌, ℕ, ◌<◌, List, [], ◌∷◌, ◌++◌, Option, None, Some, decimal, ◌⊎◌}
use Rattle.std.specs.Cmp.Lexicographic.{slice_cmp}
use Rattle.std.specs.Ordering.{nat_cmp}
use Rattle.std.specs.declared.cmp.Ordering.TheVariants.{Less}
use Rattle.toml.specs.Data.{Data, table, get, at}
use Rattle.nextest_config_elements_toml.specs.Reading.{Path}
use Rattle.nextest_config_resolution_warnings.specs.Places.{Place, place_of, keys_in, items_at}

-- a value stands at a key of a table, or at a position of a list
abbrev pub StandsAt : List ℕ → Data → Data → Type 0
StandsAt key given value = (get key given ≡ Some value) ⊎ ((position : ℕ) × (key ≡ decimal position) × (at position given ≡ Some value))

-- the place that is there, if it is known: a table knows its keys, and a list all positions
abbrev pub place_at : Place → Data → List ℕ → Option Place
place_at place (table members) key = place_of (keys_in place members) key
place_at place _ key = Some (items_at place)

-- known keys lead from a value at a place to another
abbrev pub Lead : Path → Place → Data → Place → Data → Type 0
Lead [] from given to value = (from ≡ to) × (given ≡ value)
Lead (key ∷ keys) from given to value =
    (between : Place) × (inner : Data) × StandsAt key given inner × (place_at from given key ≡ Some between) × Lead keys between inner to value

-- a path leads to something that may not stand in a value at a place: known keys lead to where it
-- stands, and its own key isn't known there
pub record IsUnknownAt (place : Place) (given : Data) (path : Path) : Type 0 where
  pub front : Path
  pub key : List ℕ
  pub parted : path ≡ front ++ key ∷ []
  pub around : Place
  pub within : Data
  pub leads : Lead front place given around within
  pub value : Data
  pub stands : StandsAt key within value
  pub unknown : place_at around within key ≡ None

-- one key comes before another: of a table the lower one, and of a list the lower position
abbrev pub IsKeyBefore : Data → List ℕ → List ℕ → Type 0
IsKeyBefore (table _) one other = slice_cmp nat_cmp one other ≡ Less
IsKeyBefore _ one other = (first : ℕ) × (next : ℕ) × (one ≡ decimal first) × (other ≡ decimal next) × (first < next)

-- what one path leads to comes before what another does: the first of its keys that isn't the
-- other's too does
abbrev pub ComesBefore : Data → Path → Path → Type 0
ComesBefore given [] other = ⊥
ComesBefore given (key ∷ path) [] = ⊥
ComesBefore given (key ∷ path) (other ∷ more) =
    IsKeyBefore given key other ⊎ ((key ≡ other) × ((value : Data) × StandsAt key given value × ComesBefore value path more))

-- The items of lists.
use Rattle.std.specs.Prelude.{ℕ, ◌+◌, List, [], ◌∷◌, Ok, decimal}
use Rattle.toml.specs.Data.{Data, Items, no_items, item}
use Rattle.nextest_config_elements_toml.specs.Reading.{Reading, ◌>>=◌, under}

-- the items of a list, each read so; what is wrong in one stands below its place, from 0 on
abbrev pub items_in : {A : Type 0} → (Data → Reading A) → ℕ → Items → Reading (List A)
items_in reading place no_items = Ok []
items_in reading place (item given more) = do
  one ← under (decimal place) (reading given)
  others ← items_in reading (place + 1) more
  Ok (one ∷ others)

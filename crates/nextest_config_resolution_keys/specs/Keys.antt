-- The keys of tables.
use Rattle.std.specs.Prelude.{[], ◌∷◌, Option, None, Ok, Err}
use Rattle.std.specs.Option.{option_map_or}
use Rattle.toml.specs.Data.{Data, table, Members, get_member}
use Rattle.nextest_config_elements_toml.specs.Reading.{Path, Reading, some, under}

-- a key: where it stands in its table, and what a value that stands there is read as
pub record Key (A : Type 0) : Type 0 where
  pub path : Path
  pub reading : Data → Reading A

-- the value at a path of what stands somewhere: where the path goes on that must be a table, which
-- may leave out the next key
abbrev pub value_in : {A : Type 0} → Path → (Data → Reading A) → Data → Reading (Option A)
value_in [] reading given = some (reading given)
value_in (key ∷ path) reading (table members) = under key (option_map_or (value_in path reading) (get_member key members) (Ok None))
value_in (key ∷ path) reading given = Err []

abbrev pub value_at : {A : Type 0} → Path → (Data → Reading A) → Members → Reading (Option A)
value_at [] reading given = Ok None
value_at (key ∷ path) reading given = value_in (key ∷ path) reading (table given)

-- the value of a key in a table, if one stands there
abbrev pub value_of : {A : Type 0} → Key A → Members → Reading (Option A)
value_of key given = value_at key.path key.reading given

-- How values that have parts are read.
use Rattle.std.specs.Prelude.{ℕ, List, [], Option, None, Ok, Err}
use Rattle.std.specs.Option.{option_map_or}
use Rattle.toml.specs.Data.{Data, array, table, Members, get_member}
use Rattle.nextest_config_elements_toml.specs.Reading.{Reading, some, texts_in, under}

-- the value of a key that may be left out, by a reading of its own
abbrev pub optional_by : {A : Type 0} → List ℕ → (Data → Reading A) → Members → Reading (Option A)
optional_by key reading members = under key (option_map_or (λ given. some (reading given)) (get_member key members) (Ok None))

-- a table, by what stands in it
abbrev pub table_by : {A : Type 0} → (Members → Reading A) → Data → Reading A
table_by reading (table members) = reading members
table_by reading given = Err []

-- a list of texts
abbrev pub texts_of : Data → Reading (List (List ℕ))
texts_of (array items) = texts_in 0 items
texts_of given = Err []

-- The items of a list.
use Rattle.std.specs.Prelude.{List, [], ◌∷◌, Option, option_map}
use Rattle.serde_json.specs.Data.{Data, Items, no_items, item}
use Rattle.serde_json.specs.Find.{as_array}

abbrev pub list_of_items : Items → List Data
list_of_items no_items = []
list_of_items (item first rest) = first ∷ list_of_items rest

-- the items of a list
abbrev pub items : Data → Option (List Data)
items given = option_map list_of_items (as_array given)

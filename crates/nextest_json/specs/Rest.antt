-- The items that are left of a list.
use Rattle.std.specs.Prelude.{List, map, Option, Some, option_map}
use Rattle.json.specs.Value.{items_view}
use Rattle.json.specs.declared.value.Value.{Value}
use Rattle.serde_json.specs.Data.{Data}
use Rattle.serde_json.specs.Read.{of_items}
use Rattle.serde_json.specs.View.{view}
use Rattle.nextest_json.specs.Listed.{list_of_items}
use Rattle.nextest_json.specs.declared.items.Rest.{Rest}
use Rattle.nextest_json.specs.declared.items.Rest.TheVariants.{Document, Trees}

-- the data of each; none where a number is out of range
abbrev pub data_of_items : {A : Type 0} → List (Value A) → Option (List Data)
data_of_items values = option_map list_of_items (of_items (items_view values))

abbrev pub data_of_rest : Rest → Option (List Data)
data_of_rest (Document values) = data_of_items values.now
data_of_rest (Trees values) = Some (map view values.now)

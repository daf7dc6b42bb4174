-- The data of the items that are left of a list.
use Rattle.std.specs.Prelude.{List, [], unwrap_or}
use Rattle.serde_json.specs.Data.{Data}
use Rattle.nextest_json.specs.Rest.{data_of_rest}
use Rattle.nextest_json.specs.declared.items.JsonItems.{JsonItems}

unfoldable pub items_left : JsonItems → List Data
items_left items = unwrap_or (data_of_rest items.rest) []

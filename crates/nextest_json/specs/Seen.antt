-- The data that a value is.
use Rattle.std.specs.Prelude.{unwrap_or}
use Rattle.serde_json.specs.Data.{Data, null}
use Rattle.nextest_json.specs.Place.{data_at_place}
use Rattle.nextest_json.specs.declared.value.JsonValue.{JsonValue}

unfoldable pub data_of : JsonValue → Data
data_of value = unwrap_or (data_at_place value.source) null

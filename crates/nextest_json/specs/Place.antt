-- What stands somewhere: in a document, or in a tree.
use Rattle.std.specs.Prelude.{Option, Some}
use Rattle.json.specs.Value.{value_view}
use Rattle.serde_json.specs.Data.{Data}
use Rattle.serde_json.specs.Read.{of_json}
use Rattle.serde_json.specs.View.{view}
use Rattle.nextest_json.specs.declared.value.Source.{Source}
use Rattle.nextest_json.specs.declared.value.Source.TheVariants.{Document, Tree}

abbrev pub data_at_place : Source → Option Data
data_at_place (Document value) = of_json (value_view value.now)
data_at_place (Tree value) = Some (view value.now)

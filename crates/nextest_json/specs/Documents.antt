-- What a document is.
use Rattle.std.specs.Prelude.{◌≡◌, ℕ, List, Some, None, Result, Ok, Err, unwrap_or, ⊤}
use Rattle.json.specs.Value.{value_view}
use Rattle.serde_json.specs.Data.{Data, null}
use Rattle.serde_json.specs.Read.{of_json, read}
use Rattle.nextest_json.specs.declared.document.JsonDocument.{JsonDocument}
use Rattle.nextest_json.specs.declared.document.DocumentError.{DocumentError}
use Rattle.nextest_json.specs.declared.document.DocumentError.TheVariants as error

unfoldable pub whole : JsonDocument → Data
whole document = unwrap_or (of_json (value_view document.root)) null

-- a text is read as the data that it is, and refused where it is none; want of memory says nothing
abbrev pub Reads : List ℕ → Result JsonDocument DocumentError → Type 0
Reads text (Ok document) = read text ≡ Some (whole document)
Reads text (Err error.Syntax) = read text ≡ None
Reads text (Err error.OutOfMemory) = ⊤

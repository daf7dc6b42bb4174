-- What a text of JSON holds, and what stands where in it.
use Rattle.std.specs.Prelude.{ℕ, ◌^◌, ◌&&◌, length, List, Option, None, nat_le, if◌then◌else◌}
use Rattle.std.specs.Str.{is_utf8}
use Rattle.serde_json.specs.Data.{Data}
use Rattle.serde_json.specs.Read.{read}
pub use Rattle.nextest_json.specs.Listed.{list_of_items, items}
pub use Rattle.nextest_json.specs.Parts.{unless_null, member, has_member, has_items, item_at}

-- the most bytes that inputs may have: 16,777,216
abbrev pub max_inputs_len : ℕ
max_inputs_len = 2 ^ 24

-- the JSON value that bytes are: not too many of them, and UTF-8
abbrev pub value_of : List ℕ → Option Data
value_of bytes = if nat_le (length bytes) max_inputs_len && is_utf8 bytes then read bytes else None

-- Whether the numbers of a value are in range.
use Rattle.std.specs.Prelude.{◌&&◌, Bool, true, is_some}
use Rattle.json.specs.Json.{Json, null, boolean, number, string, array, object, Items, no_items, item, Members, no_members, member}
use Rattle.serde_json.specs.Read.{number_of}

-- each number is one of 64 bits, or a finite float
abbrev mutual
  pub is_in_range : Json → Bool
  is_in_range null = true
  is_in_range (boolean b) = true
  is_in_range (number text) = is_some (number_of text)
  is_in_range (string text) = true
  is_in_range (array items) = are_items_in_range items
  is_in_range (object members) = are_members_in_range members

  pub are_items_in_range : Items → Bool
  are_items_in_range no_items = true
  are_items_in_range (item first more) = is_in_range first && are_items_in_range more

  pub are_members_in_range : Members → Bool
  are_members_in_range no_members = true
  are_members_in_range (member name first more) = is_in_range first && are_members_in_range more

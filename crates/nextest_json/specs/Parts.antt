-- What stands where in a value.
use Rattle.std.specs.Prelude.{ℕ, ◌==◌, Bool, false, length, List, Option, None, Some, is_some, slice_get, option_and_then}
use Rattle.std.specs.Option.{option_map_or}
use Rattle.serde_json.specs.Data.{Data, null, boolean, number, string, array, object}
use Rattle.serde_json.specs.Find.{get, as_str}
use Rattle.nextest_json.specs.Listed.{items}

-- null is absent
abbrev pub unless_null : Data → Option Data
unless_null null = None
unless_null (boolean b) = Some (boolean b)
unless_null (number n) = Some (number n)
unless_null (string s) = Some (string s)
unless_null (array items) = Some (array items)
unless_null (object found) = Some (object found)

-- what an object has under a name
abbrev pub member : List ℕ → Data → Option Data
member name given = option_and_then unless_null (get name given)

-- whether an object has something under a name
abbrev pub has_member : List ℕ → Data → Bool
has_member name given = is_some (member name given)

-- the text that an object has under a name
abbrev pub word : List ℕ → Data → Option (List ℕ)
word name given = option_and_then as_str (get name given)

-- a list of so many items
abbrev pub has_items : ℕ → Data → Bool
has_items count given = option_map_or (λ found. length found == count) (items given) false

-- the item at a position of a list
abbrev pub item_at : ℕ → Data → Option Data
item_at position given = option_and_then (λ found. slice_get found position) (items given)

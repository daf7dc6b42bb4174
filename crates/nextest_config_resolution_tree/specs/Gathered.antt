-- What tables come to, each over the next ones.
use Rattle.std.specs.Prelude.{ℕ, List, [], ◌∷◌, ◌++◌, map, option_to_list, String, string_bytes}
use Rattle.std.specs.BTreeMap.{BTreeMap}
use Rattle.std.specs.Global.{Global}
use Rattle.std.specs.List.Sorted.{IsStrictlySortedBy}
use Rattle.std.specs.Map.{keys_of}
use Rattle.std.specs.String.{string_cmp}
use Rattle.toml.specs.declared.value.Value.{Value}
use Rattle.std.specs.Ordering.{nat_cmp, match_ordering}
use Rattle.std.specs.Cmp.Lexicographic.{slice_cmp}
use Rattle.toml.specs.Data.{Data, table, Members, no_members, member, get_member}
use Rattle.toml.specs.View.{view}
use Rattle.nextest_config_resolution_tree.specs.Merged.{merge_of_files}
use Rattle.nextest_config_resolution_tree.specs.declared.gathering.Layers.{Layers}

-- tables, the highest first, each over the next ones; the empty one, where there are none
abbrev pub merged_tables : List Members → Data
merged_tables [] = table no_members
merged_tables (highest ∷ lower) = merge_of_files (table highest) (map table lower)

-- the same of what they have at one key
abbrev pub merged_layers : Layers → Data
merged_layers layers = merge_of_files (view layers.highest) (map view layers.lower.items)

-- the tables before the first leaf
abbrev pub leading : List Data → List Members
leading [] = []
leading (table members ∷ more) = members ∷ leading more
leading (leaf ∷ more) = []

-- what a table has at a key, and what each of some has there
abbrev pub member_at : List ℕ → Members → List Data
member_at key members = option_to_list (get_member key members)

abbrev pub values_at : List ℕ → List Members → List Data
values_at key [] = []
values_at key (members ∷ more) = member_at key members ++ values_at key more

-- the keys of a table rise by their bytes
abbrev pub KeysRise : BTreeMap (String Global) Value → Type 0
KeysRise members = IsStrictlySortedBy string_cmp (keys_of members.entries)

-- what was gathered at a key
abbrev pub layers_of : Layers → List Data
layers_of layers = view layers.highest ∷ map view layers.lower.items

abbrev pub given_at : List ℕ → List (String Global × Layers) → List Data
given_at key [] = []
given_at key (entry ∷ more) = match_ordering (slice_cmp nat_cmp key (string_bytes entry.0)) (given_at key more) (layers_of entry.1) (given_at key more)

-- the members of a table that has at each key what was gathered there
abbrev pub members_of : List (String Global × Layers) → Members
members_of [] = no_members
members_of (entry ∷ more) = member (string_bytes entry.0) (merged_layers entry.1) (members_of more)

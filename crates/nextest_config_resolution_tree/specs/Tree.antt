-- Trees of tables: what stands at a path, and a tree over another.
use Rattle.std.specs.Prelude.{ℕ, List, [], ◌∷◌, Option, None, Some, option_and_then}
use Rattle.std.specs.Ordering.{nat_cmp, match_ordering}
use Rattle.std.specs.Cmp.Lexicographic.{slice_cmp}
use Rattle.toml.specs.Data.{Data, table, Members, no_members, member, get, get_member}
use Rattle.nextest_config_elements_toml.specs.Reading.{Path}

-- what stands at a path
abbrev pub get_path : Path → Data → Option Data
get_path [] tree = Some tree
get_path (key ∷ path) tree = option_and_then (get_path path) (get key tree)

-- the members of what stands somewhere, where that is a table
abbrev pub members_at : Option Data → Members
members_at (Some (table members)) = members
members_at (Some leaf) = no_members
members_at None = no_members

-- the keys of a table
abbrev pub keys : Members → List (List ℕ)
keys no_members = []
keys (member key value more) = key ∷ keys more

-- the members with another value at a key
abbrev pub with_member : List ℕ → Data → Members → Members
with_member key value no_members = member key value no_members
with_member key value (member other old more) =
    match_ordering (slice_cmp nat_cmp key other) (member key value (member other old more)) (member key value more) (member other old (with_member key value more))

-- a tree over another: tables join key by key, and anything else hides what is below it
abbrev mutual
  pub over : Data → Option Data → Data
  over (table higher) (Some (table lower)) = table (merge higher lower)
  over higher lower = higher

  pub merge : Members → Members → Members
  merge no_members lower = lower
  merge (member key value more) lower = with_member key (over value (get_member key lower)) (merge more lower)

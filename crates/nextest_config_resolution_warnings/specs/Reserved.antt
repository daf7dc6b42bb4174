-- The names of profiles that are kept for the runner's own.
use Rattle.std.specs.Prelude.{ℕ, Bool, ◌&&◌, not, nat_eq, List, [], ◌∷◌, codes, filter}
use Rattle.std.specs.List.{starts_with}
use Rattle.std.specs.Option.{option_map_or}
use Rattle.std.specs.Str.{bytes_eq}
use Rattle.toml.specs.Data.{Data, table, Members, no_members, member, get_member}

-- the keys of a table
abbrev pub names : Members → List (List ℕ)
names no_members = []
names (member key value more) = key ∷ names more

abbrev pub names_in : Data → List (List ℕ)
names_in (table members) = names members
names_in _ = []

-- the names of the profiles of a file
abbrev pub profile_names : Members → List (List ℕ)
profile_names file = option_map_or names_in (get_member (codes "profile") file) []

-- a name is kept for a profile of the runner's own, and none has it
abbrev pub is_unknown_reserved : List ℕ → Bool
is_unknown_reserved name = starts_with nat_eq name (codes "default-") && not (bytes_eq name (codes "default-miri"))

-- the names of this kind that the profiles of a file have
abbrev pub unknown_reserved : Members → List (List ℕ)
unknown_reserved file = filter is_unknown_reserved (profile_names file)

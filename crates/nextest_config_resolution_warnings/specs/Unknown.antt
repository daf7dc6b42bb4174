-- What a configuration file has that it may not have.
use Rattle.std.specs.Prelude.{ℕ, ◌+◌, List, [], ◌∷◌, ◌++◌, map, decimal}
use Rattle.std.specs.Option.{option_map_or}
use Rattle.toml.specs.Data.{Data, table, array, Items, no_items, item, Members, no_members, member}
use Rattle.nextest_config_elements_toml.specs.Reading.{Path}
use Rattle.nextest_config_elements_toml.specs.declared.key_path.KeyPath.{KeyPath}
use Rattle.nextest_config_resolution_warnings.specs.Places.{Place, kind, Keys, place_of, keys_in, items_at}
use Rattle.nextest_config_resolution_warnings.specs.declared.kind.Kind.TheVariants.{Top}

-- paths, each behind a key
abbrev pub behind : List ℕ → List Path → List Path
behind key paths = map (λ path. key ∷ path) paths

-- the paths of what may not stand in a value at a place; a value with no place is such itself, and
-- isn't looked into
abbrev mutual
  pub unknown_in : Place → Data → List Path
  unknown_in place (table members) = unknown_members (keys_in place members) members
  unknown_in place (array items) = unknown_items (items_at place) 0 items
  unknown_in place _ = []

  pub unknown_members : Keys → Members → List Path
  unknown_members keys no_members = []
  unknown_members keys (member key value more) =
      behind key (option_map_or (λ place. unknown_in place value) (place_of keys key) ([] ∷ [])) ++ unknown_members keys more

  pub unknown_items : Place → ℕ → Items → List Path
  unknown_items place position no_items = []
  unknown_items place position (item value more) = behind (decimal position) (unknown_in place value) ++ unknown_items place (position + 1) more

-- a path that is handed out
abbrev pub key_path : Path → KeyPath
key_path path = record { keys = path }

-- the paths of what may not stand in a file
abbrev pub unknown_keys : Members → List KeyPath
unknown_keys members = map key_path (unknown_in (kind Top) (table members))

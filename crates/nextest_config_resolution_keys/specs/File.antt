-- The profiles and the store of a configuration.
use Rattle.std.specs.Prelude.{ℕ, List, [], ◌∷◌, codes, Option, None, Some, Ok}
use Rattle.toml.specs.Data.{Data, Members, no_members, member, as_str, get_member}
use Rattle.nextest_config_elements_toml.specs.Reading.{Reading, ◌>>=◌, optional, under}
use Rattle.nextest_config_elements_deserialize.specs.Keys.{table_by}
use Rattle.nextest_config_resolution_keys.specs.Profile.{profile_of}
use Rattle.nextest_config_resolution_keys.specs.declared.profile_config.ProfileConfig.{ProfileConfig}

-- the parent and the default filter that a profile sets
abbrev pub inherits_in : ProfileConfig → Option (List ℕ)
inherits_in profile = profile.own.inherits

abbrev pub default_filter_in : ProfileConfig → Option (List ℕ)
default_filter_in profile = profile.command.default_filter

-- a profile by its name
abbrev pub Named : Type 0
Named = List ℕ × ProfileConfig

-- the profiles of a table, in the order of their names
abbrev pub profiles_in : Members → Reading (List Named)
profiles_in no_members = Ok []
profiles_in (member name given more) = do
  profile ← under name (profile_of given)
  profiles ← profiles_in more
  Ok ((name, profile) ∷ profiles)

-- what stands under `profile`: a table of them, or nothing
abbrev pub profiles_of : Option Data → Reading (List Named)
profiles_of None = Ok []
profiles_of (Some given) = table_by profiles_in given

-- the directory of a store
abbrev pub store_dir_in : Members → Reading (Option (List ℕ))
store_dir_in members = optional (codes "dir") as_str members

-- what stands under `store`: a table that may have a directory, or nothing
abbrev pub store_dir_of : Option Data → Reading (Option (List ℕ))
store_dir_of None = Ok None
store_dir_of (Some given) = table_by store_dir_in given

-- what stands at both
abbrev pub profiles_at : Members → Reading (List Named)
profiles_at top = under (codes "profile") (profiles_of (get_member (codes "profile") top))

abbrev pub store_dir_at : Members → Reading (Option (List ℕ))
store_dir_at top = under (codes "store") (store_dir_of (get_member (codes "store") top))

-- What the laws say.
use Rattle.std.specs.Prelude.{◌≡◌, ℕ, Bool, true, false, not, List, [], ◌∷◌, ◌++◌, map, Option, Some, Ok, is_some}
use Rattle.std.specs.List.{filter}
use Rattle.toml.specs.Data.{table, Members}
use Rattle.toml.specs.Parse.{parse_document}
use Rattle.nextest_config_elements_toml.specs.Reading.{Path}
use Rattle.nextest_config_resolution_profiles.specs.BuiltIn.{built_in_members, default_members}
use Rattle.nextest_config_resolution_profiles.specs.Profiles.{built_in_config, built_in_file, default_profile}
use Rattle.nextest_config_resolution_inheritance.specs.Inheritance.{IsAccepted}
use Rattle.nextest_config_resolution_inheritance.specs.Inherits.{parents_in}
use Rattle.nextest_config_resolution_load.specs.Checks.{config_in}
use Rattle.nextest_config_resolution_load.specs.File.{file_in}
use Rattle.nextest_config_resolution_settings.specs.Nearest.{SetsNone}
use Rattle.nextest_config_resolution_tree.specs.Tree.{get_path}
use Rattle.nextest_config_resolution_keys.specs.File.{inherits_in}
use Rattle.nextest_config_resolution_keys.specs.Keys.{Key}
use Rattle.nextest_config_resolution_keys.specs.Profile.{profile_rows}
use Rattle.nextest_config_resolution_keys.specs.declared.profile_config.ProfileConfig.{ProfileConfig}

-- a text is written as this tree
abbrev pub WrittenAs : List ℕ → Type 0
WrittenAs text = parse_document text ≡ Some built_in_members

-- it is read as these values, and has neither rules nor groups
pub record ReadAs : Type 0 where
  pub values : config_in built_in_members ≡ Ok built_in_config
  pub file : file_in built_in_members ≡ Ok built_in_file

-- its profiles may inherit as they do
abbrev pub Accepted : Type 0
Accepted = IsAccepted (parents_in (λ named. named.0) (λ named. inherits_in named.1) built_in_config.profiles)

-- whether something stands in a table at the path of a key
abbrev pub has_at : Path → Members → Bool
has_at [] given = false
has_at (key ∷ path) given = is_some (get_path (key ∷ path) (table given))

-- the built-in `default` has all keys of a profile but these
abbrev pub HasAllBut : List Path → Type 0
HasAllBut missing = map (λ row. row.path) (filter (λ row. not (has_at row.path default_members)) profile_rows) ≡ missing

-- a chain that ends with it sets each key that it has: no fallback is used
abbrev pub NoFallback : {V : Type 0} → Key V → (ProfileConfig → Option V) → Type 0
NoFallback key set_by = has_at key.path default_members ≡ true → (front : List ProfileConfig) → ¬ SetsNone set_by (front ++ default_profile ∷ [])

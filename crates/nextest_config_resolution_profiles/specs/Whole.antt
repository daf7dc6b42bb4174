-- A whole configuration, as clauses see it.
use Rattle.std.specs.Prelude.{◌≡◌, ℕ, Bool, List, Option, Some, All, Contains, is_some}
use Rattle.std.specs.List.{AllZip}
use Rattle.nextest_config_resolution_inheritance.specs.Inheritance.{IsAccepted, Rise, default, names}
use Rattle.nextest_config_resolution_load.specs.Checks.{parents_of}
use Rattle.nextest_config_resolution_load.specs.Load.{merged_of}
use Rattle.nextest_config_resolution_load.specs.declared.loaded_config.LoadedConfig.{LoadedConfig}
use Rattle.nextest_config_resolution_load.specs.declared.loaded_config.NamedProfile.{NamedProfile}
use Rattle.nextest_config_resolution_profiles.specs.Asking.{IsAskable, Serves}
use Rattle.nextest_config_resolution_keys.specs.File.{default_filter_in}
use Rattle.nextest_config_resolution_profiles.specs.Values.{SetsFilter}

-- the root of its workspace, and what its sources come to
pub record Whole (F S : Type 0) : Type 0 where
  pub root : List ℕ
  pub loaded : LoadedConfig F S

-- there is a filter for each profile that sets a default filter, and for no other
abbrev pub AreFiltered : {F : Type 0} → List NamedProfile → List (Option F) → Type 0
AreFiltered profiles filters = AllZip (λ profile found. is_some found ≡ is_some (default_filter_in profile.config)) profiles filters

-- the profiles inherit as they may, their names rise, `default` is among them and sets a default
-- filter, the default filters of all are read and serve as such, no rule asks for groups, and there
-- is a directory of the store
pub record IsSound {F S : Type 0} (serves_as_default asks_groups : F → Bool) (loaded : LoadedConfig F S) : Type 0 where
  pub accepted : IsAccepted (parents_of (merged_of loaded).profiles)
  pub rises : Rise (parents_of (merged_of loaded).profiles)
  pub has_default : Contains (names (parents_of (merged_of loaded).profiles)) default
  pub sets_filter : SetsFilter (merged_of loaded).profiles
  pub filtered : AreFiltered loaded.profiles loaded.default_filters
  pub serve : All (Serves serves_as_default) loaded.default_filters
  pub askable : All (IsAskable serves_as_default asks_groups) loaded.rules
  pub scripts_askable : All (IsAskable serves_as_default asks_groups) loaded.script_rules
  pub stored : (dir : List ℕ) × (loaded.store_dir ≡ Some dir)

-- Lists of sources that agree but in profiles of other names, and what of a configuration depends
-- on profiles of some names alone.
use Rattle.std.specs.Prelude.{◌≡◌, ◌≢◌, ℕ, Bool, List, [], ◌∷◌, Option, None, Some, Ok, All, codes, ⊤, if◌then◌else◌}
use Rattle.std.specs.List.{AllZip, list_any}
use Rattle.std.specs.Str.{bytes_eq}
use Rattle.toml.specs.Data.{Data, table, Members, no_members, member, get_member}
use Rattle.nextest_config_elements_versions.specs.declared.feature.FeatureSet.{FeatureSet}
use Rattle.nextest_config_resolution_inheritance.specs.Inheritance.{Name}
use Rattle.nextest_config_resolution_load.specs.Checks.{file_of, rules_downward, script_rules_downward}
use Rattle.nextest_config_resolution_load.specs.Load.{IsFilterBy, IsSpecBy}
use Rattle.nextest_config_resolution_profiles.specs.Config.{IsConfig, profiles_of, values_of}
use Rattle.nextest_config_resolution_profiles.specs.Whole.{Whole}
use Rattle.nextest_config_resolution_settings.specs.Rules.{profile_of, rules_of, script_profile_of}
use Rattle.nextest_config_resolution_sources.specs.declared.source.ConfigSource.{ConfigSource}

-- a key is one of some names
abbrev pub is_one_of : List Name → List ℕ → Bool
is_one_of names key = list_any (bytes_eq key) names

-- what a table has under these names, with them
abbrev pub named_members : List Name → Members → List (List ℕ × Data)
named_members names no_members = []
named_members names (member key value more) = if is_one_of names key then (key, value) ∷ named_members names more else named_members names more

-- the members of a table that stands somewhere
abbrev pub inside : Option Data → Members
inside (Some (table members)) = members
inside other = no_members

-- the table of the profiles of a file, by name
abbrev pub profiles_below : Members → Members
profiles_below file = inside (get_member (codes "profile") file)

-- two files have the same at each key, but for profiles of other names
pub record AgreeBut (names : List Name) (one other : Members) : Type 0 where
  pub elsewhere : (key : List ℕ) → key ≢ codes "profile" → get_member key other ≡ get_member key one
  pub profiles : named_members names (profiles_below other) ≡ named_members names (profiles_below one)

-- where there is a file in the one source there is one in the other, and they agree
abbrev pub FilesAgree : List Name → Option Members → Option Members → Type 0
FilesAgree names None None = ⊤
FilesAgree names (Some one) (Some other) = AgreeBut names one other
FilesAgree names one other = ⊥

-- two sources are of one kind and one path, and their files agree
pub record SourceAgrees (names : List Name) (one other : ConfigSource) : Type 0 where
  pub kind : other.kind ≡ one.kind
  pub path : other.path ≡ one.path
  pub file : FilesAgree names (file_of one) (file_of other)

-- so do all, each beside its like
abbrev pub SourcesAgree : List Name → List ConfigSource → List ConfigSource → Type 0
SourcesAgree names sources others = AllZip (SourceAgrees names) sources others

-- two configurations have the same values, overrides and script rules in the profiles of these
-- names, the same groups and scripts, and the same directory of their store
pub record SameOnProfiles {F S : Type 0} (names : List Name) (sources others : List ConfigSource) (config second : Whole F S) : Type 0 where
  pub values : All (λ name. values_of (profiles_of second) name ≡ values_of (profiles_of config) name) names
  pub rules : rules_of profile_of (rules_downward others) names ≡ rules_of profile_of (rules_downward sources) names
  pub script_rules : rules_of script_profile_of (script_rules_downward others) names ≡ rules_of script_profile_of (script_rules_downward sources) names
  pub groups : second.loaded.groups ≡ config.loaded.groups
  pub scripts : second.loaded.scripts ≡ config.loaded.scripts
  pub store_dir : second.loaded.store_dir ≡ config.loaded.store_dir

-- sources that agree but in profiles of other names come to configurations that are the same in
-- those of these names
abbrev pub ProfileIsolation : {F S : Type 0} → IsFilterBy F → IsSpecBy S → (List ℕ → Type 0) → Type 0
ProfileIsolation {F} {S} Is IsSpec IsTooDeep =
    (features other_features : FeatureSet) (root other_root : List ℕ) (sources others : List ConfigSource) (names : List Name) (config second : Whole F S)
    → SourcesAgree names sources others
    → IsConfig Is IsSpec IsTooDeep features root sources (Ok config) → IsConfig Is IsSpec IsTooDeep other_features other_root others (Ok second)
    → SameOnProfiles names sources others config second

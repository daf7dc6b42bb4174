-- A profile that is built in stays, since no file that is accepted has anything but tables in its
-- place.
use Rattle.std.proofs.Common.{◌≡◌, ℕ, suc, List, [], ◌∷◌, codes, Option, None, Some, Ok, Err, refl, sym, ap, ◌∙◌, subst, Ordering, Less, Equal, Greater, arith, is_some, map, option_map}
use Rattle.std.proofs.lemmas.Bool.{false≢true}
use Rattle.std.specs.List.{Contains, AllByRecursion, cons_option, filter_map, flat_map}
use Rattle.std.specs.Ordering.{match_ordering}
use Rattle.toml.specs.Data.{Data, table, Members, no_members, member, get_member}
use Rattle.toml.specs.Parse.{parse_document}
use Rattle.nextest_config_elements_identifiers.specs.declared.source_kind.ConfigSourceKind.{ConfigSourceKind}
use Rattle.nextest_config_elements_toml.specs.Reading.{Reading}
use Rattle.nextest_config_resolution_inheritance.specs.Inheritance.{names}
use Rattle.nextest_config_resolution_load.specs.Checks.{MergedConfig, as_setup, config_in, document_checks, document_of, file_checks, file_of, scripts_over, members_of, merged_in, file_with_setup, outcome_checks, parents_of, tree_of_files, source_checks}
use Rattle.nextest_config_resolution_load.specs.File.{file_in}
use Rattle.nextest_config_resolution_load.specs.Load.{IsFilterBy, IsKept, IsLoadedAs, IsSpecBy, merged_of}
use Rattle.nextest_config_resolution_load.specs.declared.file_config.FileConfig.{FileConfig}
use Rattle.nextest_config_resolution_load.specs.declared.loaded_config.LoadedConfig.{LoadedConfig}
use Rattle.nextest_config_resolution_load.proofs.Kept.{kept_before, kept_behind, kept_sources}
use Rattle.nextest_config_resolution_load.proofs.Configs.{same_names}
use Rattle.nextest_config_resolution_load.proofs.Profiles.{names_read}
use Rattle.nextest_config_resolution_profiles.specs.Kept.{HasProfile, KeptProfile}
use Rattle.nextest_config_resolution_profiles.proofs.Tables.{IsRead, below, config_parts, file_parts, profiles_table, table_kept}
use Rattle.nextest_config_resolution_sources.specs.Counting.{counting_sources}
use Rattle.nextest_config_resolution_sources.specs.declared.source.ConfigSource.{ConfigSource}
use Rattle.nextest_config_resolution_sources.specs.declared.source.ConfigSourceOutcome.{ConfigSourceOutcome}
use Rattle.nextest_config_resolution_sources.specs.declared.source.ConfigSourceOutcome.TheVariants as outcome
use Rattle.nextest_config_resolution_tree.specs.Tree.{keys, over, merge}
use Rattle.nextest_config_resolution_tree.proofs.Keys.{key_cmp, equal_keys}
use Rattle.nextest_config_resolution_tree.proofs.Standings.{get_merge, joint}
use Rattle.nextest_config_resolution_keys.specs.File.{profiles_in, profiles_of, store_dir_of}
use Rattle.nextest_config_elements_versions.specs.declared.feature.FeatureSet.{FeatureSet}

-- ---- keys

first_has : {X : Type 0} (x : X) (xs : List X) → Contains (x ∷ xs) x
first_has x xs = (0, omega arith, refl)

rest_has : {X : Type 0} (x y : X) (xs : List X) → Contains xs y → Contains (x ∷ xs) y
rest_has x y xs (k, within, is) = (suc k, omega (arith, within), is)

key_there : (name : List ℕ) (members : Members) (given : Data) → get_member name members ≡ Some given → Contains (keys members) name
key_there name no_members given e = absurd (false≢true (ap is_some e))
key_there name (member other value more) given e = by_order (key_cmp name other) refl e (key_there name more given) where
  by_order : (order : Ordering) → key_cmp name other ≡ order → match_ordering order (get_member name more) (Some value) (get_member name more) ≡ Some given
      → (get_member name more ≡ Some given → Contains (keys more) name) → Contains (other ∷ keys more) name
  by_order Less f e deeper = rest_has other name (keys more) (deeper e)
  by_order Greater f e deeper = rest_has other name (keys more) (deeper e)
  by_order Equal f e deeper = subst (λ key. Contains (key ∷ keys more) name) (equal_keys name other f) (first_has name (keys more))

-- ---- files

module _ {F S : Type 0} (Is : IsFilterBy F) (IsSpec : IsSpecBy S) where
  -- what is read without a fault
  read_ok : (features : FeatureSet) (path : List ℕ) (kind : ConfigSourceKind) (reading : Reading FileConfig) → AllByRecursion (IsKept Is IsSpec) (file_checks features path kind reading)
      → (config : FileConfig) × (reading ≡ Ok config)
  read_ok features path kind (Ok config) kept = (config, refl)
  read_ok features path kind (Err keys) kept = absurd kept.0

  document_has : (features : FeatureSet) (path : List ℕ) (kind : ConfigSourceKind) (found : Option Members) → AllByRecursion (IsKept Is IsSpec) (document_checks features path kind found)
      → AllByRecursion IsRead (cons_option found [])
  document_has features path kind None kept = tt
  document_has features path kind (Some file) kept = let (config, read) = read_ok features path kind (file_in file) kept in (file_parts file config read, tt)

  outcome_has : (features : FeatureSet) (path : List ℕ) (kind : ConfigSourceKind) (outcome : ConfigSourceOutcome) → AllByRecursion (IsKept Is IsSpec) (outcome_checks features path kind outcome)
      → AllByRecursion IsRead (cons_option (document_of outcome) [])
  outcome_has features path kind (outcome.Text text) kept = document_has features path kind (parse_document text) kept
  outcome_has features path kind outcome.NotFound kept = tt
  outcome_has features path kind (outcome.Failed cause) kept = tt

one_more : (file : Option Members) (files : List Members) → AllByRecursion IsRead (cons_option file []) → AllByRecursion IsRead files → AllByRecursion IsRead (cons_option file files)
one_more None files here more = more
one_more (Some file) files here more = (here.0, more)

files_have : {F S : Type 0} (Is : IsFilterBy F) (IsSpec : IsSpecBy S) (features : FeatureSet) (sources : List ConfigSource) → AllByRecursion (IsKept Is IsSpec) (flat_map (source_checks features) sources)
    → AllByRecursion IsRead (filter_map file_of sources)
files_have Is IsSpec features [] kept = tt
files_have Is IsSpec features (source ∷ more) kept =
    let here = kept_before Is IsSpec (source_checks features source) (flat_map (source_checks features) more) kept in
    let behind = kept_behind Is IsSpec (source_checks features source) (flat_map (source_checks features) more) kept in
    one_more (file_of source) (filter_map file_of more) (outcome_has Is IsSpec features source.path source.kind source.outcome here) (files_have Is IsSpec features more behind)

-- a file whose setup scripts are moved has the same profiles and the same store
moved_at : (key : List ℕ) (file : Members) → ((given : Data) → get_member key (as_setup given) ≡ None) → get_member key (file_with_setup file) ≡ get_member key file
moved_at key file none = by_scripts (get_member (codes "script") file) where
  by_scripts : (found : Option Data) → get_member key (scripts_over (option_map as_setup found) file) ≡ get_member key file
  by_scripts None = refl
  by_scripts (Some given) = get_merge key (as_setup given) file ∙ ap (λ (it : Option Data). joint it (get_member key file)) (none given)

moved_read : (file : Members) → IsRead file → IsRead (file_with_setup file)
moved_read file (profiles, store_dir, parts) = (
  profiles,
  store_dir,
  record {
    profiles_read = ap profiles_of (moved_at (codes "profile") file (λ given. refl)) ∙ parts.profiles_read;
    store_read = ap store_dir_of (moved_at (codes "store") file (λ given. refl)) ∙ parts.store_read;
  },
)

pub moved_have : (files : List Members) → AllByRecursion IsRead files → AllByRecursion IsRead (map file_with_setup files)
moved_have [] read = tt
moved_have (file ∷ files) read = (moved_read file read.0, moved_have files read.1)

-- what each file that is read leaves over what is below it stays through all of them
raised_keeps : (Keeps : Members → Type 0) → ((file lower : Members) → IsRead file → Keeps lower → Keeps (merge file lower))
    → (files : List Members) (lower : Members) → AllByRecursion IsRead files → Keeps lower → Keeps (members_of (tree_of_files (table lower) files))
raised_keeps Keeps one [] lower read it = it
raised_keeps Keeps one (file ∷ files) lower read it = raised_keeps Keeps one files (merge file lower) read.1 (one file lower read.0 it)

pub kept_in : {F S : Type 0} (Is : IsFilterBy F) (IsSpec : IsSpecBy S) (features : FeatureSet) (built_in : Members) (sources : List ConfigSource) (config : LoadedConfig F S) (Keeps : Members → Type 0)
    → ((file lower : Members) → IsRead file → Keeps lower → Keeps (merge file lower)) → IsLoadedAs Is IsSpec features built_in sources config → Keeps built_in → Keeps (merged_in built_in sources)
kept_in Is IsSpec features built_in sources config Keeps one loaded it =
    raised_keeps Keeps one (map file_with_setup (filter_map file_of (counting_sources sources))) built_in
    (moved_have (filter_map file_of (counting_sources sources)) (files_have Is IsSpec features (counting_sources sources) (kept_sources Is IsSpec features built_in sources loaded.kept))) it

-- ---- one file over what is below it

profile_kept : (name : List ℕ) (higher lower : Members) (given : Data) → get_member name lower ≡ Some given → (kept : Data) × (get_member name (merge higher lower) ≡ Some kept)
profile_kept name higher lower given there = by_found (get_member name higher) refl where
  by_found : (found : Option Data) → get_member name higher ≡ found → (kept : Data) × (get_member name (merge higher lower) ≡ Some kept)
  by_found None f = (given, get_merge name higher lower ∙ rw f there)
  by_found (Some value) f = (over value (get_member name lower), get_merge name higher lower ∙ rw f refl)

merged_has : (name : List ℕ) (file lower : Members) → IsRead file → HasProfile name lower → HasProfile name (merge file lower)
merged_has name file lower (profiles, store_dir, parts) it =
    let may = profiles_table (get_member (codes "profile") file) profiles parts.profiles_read in
    let kept = profile_kept name (below (codes "profile") file) it.profiles it.given it.there in
    record {
      profiles = merge (below (codes "profile") file) it.profiles;
      given = kept.0;
      listed = table_kept (codes "profile") file lower it.profiles may.0 it.listed;
      there = kept.1;
    }

-- ---- the whole

read_has : (name : List ℕ) (top : Members) (config : MergedConfig) → HasProfile name top → config_in top ≡ Ok config → Contains (names (parents_of config.profiles)) name
read_has name top config it e =
    let there : profiles_in it.profiles ≡ Ok config.profiles = sym (ap profiles_of it.listed) ∙ (config_parts top config e).profiles_read in
    subst (λ all. Contains all name) (sym (names_read it.profiles config.profiles there) ∙ sym (same_names config.profiles)) (key_there name it.profiles it.given it.there)

pub kept_profile : {F S : Type 0} (Is : IsFilterBy F) (IsSpec : IsSpecBy S) (IsTooDeep : List ℕ → Type 0) → KeptProfile Is IsSpec IsTooDeep
kept_profile Is IsSpec IsTooDeep features built_in sources config name has loaded =
    read_has name (merged_in built_in sources) (merged_of config) (kept_in Is IsSpec features built_in sources config (HasProfile name) (merged_has name) loaded has) loaded.values

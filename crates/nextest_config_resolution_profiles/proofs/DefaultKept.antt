-- What is built in of `default` and of the store stays, since no file that is read has anything but
-- tables in the places of its tables.
use Rattle.std.proofs.Common.{◌≡◌, ℕ, true, List, [], ◌∷◌, codes, Option, None, Some, Ok, Err, is_some, refl, sym, ap, ◌∙◌, subst, inl, inr, Ordering, Less, Equal, Greater}
use Rattle.std.proofs.lemmas.Bool.{false≢true}
use Rattle.std.proofs.lemmas.Option.{none-some, same_Some}
use Rattle.std.proofs.lemmas.Map.Text.{is_eq-slice_cmp}
use Rattle.std.specs.Option.{option_and_then, option_map_or}
use Rattle.std.specs.Ordering.{is_eq, match_ordering}
use Rattle.toml.specs.Data.{Data, string, integer, float, boolean, datetime, array, table, Members, no_members, member, get_member}
use Rattle.nextest_config_elements_toml.specs.Reading.{Path, Reading, ◌>>=◌, some, under}
use Rattle.nextest_config_resolution_inheritance.specs.Inheritance.{default}
use Rattle.nextest_config_resolution_load.specs.Checks.{MergedConfig, config_in, merged_in}
use Rattle.nextest_config_resolution_load.specs.Load.{IsFilterBy, IsLoadedAs, IsSpecBy, merged_of}
use Rattle.nextest_config_resolution_load.specs.declared.loaded_config.LoadedConfig.{LoadedConfig}
use Rattle.nextest_config_resolution_profiles.specs.BuiltIn.{built_in_members, default_members, profiles_members, store_members}
use Rattle.nextest_config_resolution_profiles.specs.BuiltInLaws.{has_at}
use Rattle.nextest_config_resolution_profiles.specs.Config.{values_of}
use Rattle.nextest_config_resolution_profiles.proofs.Found.{found_by}
use Rattle.nextest_config_resolution_profiles.proofs.Kept.{kept_in}
use Rattle.nextest_config_resolution_profiles.proofs.Tables.{IsRead, MayBeTable, below, config_parts, key_kept, profiles_table, read_table, store_table, table_kept, under_read}
use Rattle.nextest_config_resolution_sources.specs.declared.source.ConfigSource.{ConfigSource}
use Rattle.nextest_config_resolution_profiles.specs.Agreeing.{inside}
use Rattle.nextest_config_resolution_tree.specs.Tree.{get_path, over, merge}
use Rattle.nextest_config_resolution_tree.proofs.Keys.{key_cmp}
use Rattle.nextest_config_resolution_tree.proofs.Standings.{get_merge, joint}
use Rattle.nextest_config_resolution_keys.specs.File.{Named, profiles_in, profiles_of, store_dir_in, store_dir_of}
use Rattle.nextest_config_resolution_keys.specs.Keys.{Key, value_at, value_in, value_of}
use Rattle.nextest_config_resolution_keys.specs.Profile.{profile_in, profile_of}
use Rattle.nextest_config_resolution_keys.specs.declared.profile_config.ProfileConfig.{ProfileConfig}
use Rattle.nextest_config_elements_versions.specs.declared.feature.FeatureSet.{FeatureSet}

-- ---- a profile by its name

-- profiles, by the readings of the first and of those behind it
abbrev joined : List ℕ → Reading ProfileConfig → Reading (List Named) → Reading (List Named)
joined name first more = under name first >>= (λ value. more >>= (λ others. Ok ((name, value) ∷ others)))

joined_read : (name : List ℕ) (first : Reading ProfileConfig) (more : Reading (List Named)) (all : List Named) → joined name first more ≡ Ok all
    → (value : ProfileConfig) × (others : List Named) × (first ≡ Ok value) × (more ≡ Ok others) × ((name, value) ∷ others ≡ all)
joined_read name (Ok value) (Ok others) all e = (value, others, refl, refl, cc)
joined_read name (Ok value) (Err path) all e = absurd (cc)
joined_read name (Err path) more all e = absurd (cc)

-- what stands under a name in a table of profiles is read as the values of that name
profile_at : (name : List ℕ) (members : Members) (given : Data) (all : List Named) → get_member name members ≡ Some given → profiles_in members ≡ Ok all
    → (value : ProfileConfig) × (values_of all name ≡ Some value) × (profile_of given ≡ Ok value)
profile_at name no_members given all e read = absurd (none-some given e)
profile_at name (member other here more) given all e read =
    let (value, others, first, rest, is) = joined_read other (profile_of here) (profiles_in more) all read in
    let it = by_order value others first (key_cmp name other) refl e (λ f. profile_at name more given others f rest) in
    (it.0, sym (ap (λ all. values_of all name) is) ∙ it.1, it.2)
  where
    found : (value : ProfileConfig) (others : List Named) (order : Ordering) → key_cmp name other ≡ order
        → values_of ((other, value) ∷ others) name ≡ found_by name (other, value) others (is_eq order)
    found value others order f = ap (found_by name (other, value) others) (sym (is_eq-slice_cmp name other) ∙ ap is_eq f)

    by_order : (value : ProfileConfig) (others : List Named) → profile_of here ≡ Ok value → (order : Ordering) → key_cmp name other ≡ order
        → match_ordering order (get_member name more) (Some here) (get_member name more) ≡ Some given
        → (get_member name more ≡ Some given → (it : ProfileConfig) × (values_of others name ≡ Some it) × (profile_of given ≡ Ok it))
        → (it : ProfileConfig) × (values_of ((other, value) ∷ others) name ≡ Some it) × (profile_of given ≡ Ok it)
    by_order value others is Equal f e deeper = (value, found value others Equal f, sym (ap profile_of (same_Some here given e)) ∙ is)
    by_order value others is Less f e deeper = let it = deeper e in (it.0, found value others Less f ∙ it.1, it.2)
    by_order value others is Greater f e deeper = let it = deeper e in (it.0, found value others Greater f ∙ it.1, it.2)

-- ---- what stands at a path

-- stays below a file that may have a value there
value_kept : {A : Type 0} (path : Path) (reading : Data → Reading A) (higher lower : Data) (x : Option A) → value_in path reading higher ≡ Ok x
    → is_some (get_path path lower) ≡ true → is_some (get_path path (over higher (Some lower))) ≡ true
value_kept [] reading higher lower x read there = refl
value_kept {A} (key ∷ path) reading (table higher) (table lower) x read there =
    ap (λ found. is_some (option_and_then (get_path path) found)) (get_merge key higher lower)
    ∙ by_found (get_member key higher) (get_member key lower) (λ value given. value_kept path reading value given x) read there
  where
    by_found : (mine given : Option Data)
        → ((value other : Data) → value_in path reading value ≡ Ok x → is_some (get_path path other) ≡ true → is_some (get_path path (over value (Some other))) ≡ true)
        → under key (option_map_or (value_in path reading) mine (Ok None)) ≡ Ok x → is_some (option_and_then (get_path path) given) ≡ true
        → is_some (option_and_then (get_path path) (joint mine given)) ≡ true
    by_found None given deeper e f = f
    by_found (Some value) None deeper e f = absurd (false≢true f)
    by_found (Some value) (Some given) deeper e f = deeper value given (under_read key (value_in path reading value) x e) f
value_kept (key ∷ path) reading (table higher) (string text) x read there = absurd (false≢true there)
value_kept (key ∷ path) reading (table higher) (integer number) x read there = absurd (false≢true there)
value_kept (key ∷ path) reading (table higher) (float number) x read there = absurd (false≢true there)
value_kept (key ∷ path) reading (table higher) (boolean truth) x read there = absurd (false≢true there)
value_kept (key ∷ path) reading (table higher) (datetime time) x read there = absurd (false≢true there)
value_kept (key ∷ path) reading (table higher) (array items) x read there = absurd (false≢true there)
value_kept (key ∷ path) reading (string text) lower x read there = absurd (let e = read in cc)
value_kept (key ∷ path) reading (integer number) lower x read there = absurd (let e = read in cc)
value_kept (key ∷ path) reading (float number) lower x read there = absurd (let e = read in cc)
value_kept (key ∷ path) reading (boolean truth) lower x read there = absurd (let e = read in cc)
value_kept (key ∷ path) reading (datetime time) lower x read there = absurd (let e = read in cc)
value_kept (key ∷ path) reading (array items) lower x read there = absurd (let e = read in cc)

at_kept : {A : Type 0} (path : Path) (reading : Data → Reading A) (higher lower : Members) (x : Option A) → value_at path reading higher ≡ Ok x
    → has_at path lower ≡ true → has_at path (merge higher lower) ≡ true
at_kept [] reading higher lower x read there = there
at_kept (key ∷ path) reading higher lower x read there = value_kept (key ∷ path) reading (table higher) (table lower) x read there

-- is read as a value
some_read : {A : Type 0} (reading : Reading A) (x : Option A) → some reading ≡ Ok x → is_some x ≡ true
some_read (Ok y) x e = let same : x ≡ Some y = cc in ap is_some same
some_read (Err path) x e = absurd (let f = e in cc)

value_set : {A : Type 0} (path : Path) (reading : Data → Reading A) (given : Data) (x : Option A) → value_in path reading given ≡ Ok x
    → is_some (get_path path given) ≡ true → is_some x ≡ true
value_set [] reading given x read there = some_read (reading given) x read
value_set {A} (key ∷ path) reading (table members) x read there = by_found (get_member key members) (λ value. value_set path reading value x) read there where
  by_found : (found : Option Data) → ((value : Data) → value_in path reading value ≡ Ok x → is_some (get_path path value) ≡ true → is_some x ≡ true)
      → under key (option_map_or (value_in path reading) found (Ok None)) ≡ Ok x → is_some (option_and_then (get_path path) found) ≡ true → is_some x ≡ true
  by_found None deeper e f = absurd (false≢true f)
  by_found (Some value) deeper e f = deeper value (under_read key (value_in path reading value) x e) f
value_set (key ∷ path) reading (string text) x read there = absurd (false≢true there)
value_set (key ∷ path) reading (integer number) x read there = absurd (false≢true there)
value_set (key ∷ path) reading (float number) x read there = absurd (false≢true there)
value_set (key ∷ path) reading (boolean truth) x read there = absurd (false≢true there)
value_set (key ∷ path) reading (datetime time) x read there = absurd (false≢true there)
value_set (key ∷ path) reading (array items) x read there = absurd (false≢true there)

at_set : {A : Type 0} (path : Path) (reading : Data → Reading A) (given : Members) (x : Option A) → value_at path reading given ≡ Ok x → has_at path given ≡ true → is_some x ≡ true
at_set [] reading given x read there = absurd (false≢true there)
at_set (key ∷ path) reading given x read there = value_set (key ∷ path) reading (table given) x read there

-- nothing does in an empty table
none_read : {A : Type 0} (path : Path) (reading : Data → Reading A) → value_at path reading no_members ≡ Ok None
none_read [] reading = refl
none_read (key ∷ path) reading = refl

-- ---- a key of `default`

-- a key is read, of each profile
abbrev pub Reads : {V : Type 0} → Key V → (ProfileConfig → Option V) → Type 0
Reads key set_by = (given : Members) (it : ProfileConfig) → profile_in given ≡ Ok it → value_of key given ≡ Ok (set_by it)

-- the table of `default` stands, with something at a path
pub record HasAt (path : Path) (top : Members) : Type 0 where
  pub profiles : Members
  pub values : Members
  pub at_profiles : get_member (codes "profile") top ≡ Some (table profiles)
  pub at_values : get_member default profiles ≡ Some (table values)
  pub has : has_at path values ≡ true

-- what stands in the place of a profile is a table, and so is what may stand above a key
record Fits {V : Type 0} (key : Key V) (found : Option Data) : Type 0 where
  itself : MayBeTable found
  value : Option V
  read : value_of key (inside found) ≡ Ok value

module _ {V : Type 0} (key : Key V) (set_by : ProfileConfig → Option V) (reads : Reads key set_by) where
  profile_fits : (name : List ℕ) (profiles : Members) (all : List Named) → profiles_in profiles ≡ Ok all → Fits key (get_member name profiles)
  profile_fits name profiles all read = by_found (get_member name profiles) refl where
    by_found : (found : Option Data) → get_member name profiles ≡ found → Fits key found
    by_found None e = record { itself = inl refl; value = None; read = none_read key.path key.reading }
    by_found (Some given) e =
        let (value, listed, read_as) = profile_at name profiles given all e read in
        let (members, same, read_in) = read_table profile_in given value read_as in
        subst (λ found. Fits key (Some found)) (sym same) (record { itself = inr (members, refl); value = set_by value; read = reads members value read_in })

  merged_has : (file lower : Members) → IsRead file → HasAt key.path lower → HasAt key.path (merge file lower)
  merged_has file lower (all, dir, parts) it =
      let profiles = below (codes "profile") file in
      let values = below default profiles in
      let listed = profiles_table (get_member (codes "profile") file) all parts.profiles_read in
      let fits = profile_fits default profiles all listed.1 in
      record {
        profiles = merge profiles it.profiles;
        values = merge values it.values;
        at_profiles = table_kept (codes "profile") file lower it.profiles listed.0 it.at_profiles;
        at_values = table_kept default profiles it.profiles it.values fits.itself it.at_values;
        has = at_kept key.path key.reading values it.values fits.value fits.read it.has;
      }

  -- the values of `default` set it
  default_set : (top : Members) (config : MergedConfig) (it : HasAt key.path top) → config_in top ≡ Ok config
      → (value : ProfileConfig) × (values_of config.profiles default ≡ Some value) × (is_some (set_by value) ≡ true)
  default_set top config it e =
      let read : profiles_in it.profiles ≡ Ok config.profiles = ap profiles_of (sym it.at_profiles) ∙ (config_parts top config e).profiles_read in
      let (value, found, read_as) = profile_at default it.profiles (table it.values) config.profiles it.at_values read in
      let (members, same, read_in) = read_table profile_in (table it.values) value read_as in
      let here : it.values ≡ members = (let f = same in cc) in
      (value, found, at_set key.path key.reading it.values (set_by value) (ap (value_of key) here ∙ reads members value read_in) it.has)

  built_in_has : has_at key.path default_members ≡ true → HasAt key.path built_in_members
  built_in_has has = record { profiles = profiles_members; values = default_members; at_profiles = refl; at_values = refl; has = has }

  pub built_in_set : has_at key.path default_members ≡ true → (config : MergedConfig) → config_in built_in_members ≡ Ok config
      → (value : ProfileConfig) × (values_of config.profiles default ≡ Some value) × (is_some (set_by value) ≡ true)
  built_in_set has config e = default_set built_in_members config (built_in_has has) e

  -- in what sources come to
  pub loaded_set : {F S : Type 0} (Is : IsFilterBy F) (IsSpec : IsSpecBy S) (features : FeatureSet) (sources : List ConfigSource) (loaded : LoadedConfig F S)
      → IsLoadedAs Is IsSpec features built_in_members sources loaded → has_at key.path default_members ≡ true
      → (value : ProfileConfig) × (values_of (merged_of loaded).profiles default ≡ Some value) × (is_some (set_by value) ≡ true)
  loaded_set Is IsSpec features sources loaded it has =
      default_set (merged_in built_in_members sources) (merged_of loaded)
      (kept_in Is IsSpec features built_in_members sources loaded (HasAt key.path) merged_has it (built_in_has has)) it.values

-- ---- the store

record HasStore (top : Members) : Type 0 where
  store : Members
  at_store : get_member (codes "store") top ≡ Some (table store)
  has : is_some (get_member (codes "dir") store) ≡ true

store_merged : (file lower : Members) → IsRead file → HasStore lower → HasStore (merge file lower)
store_merged file lower (all, dir, parts) it =
    let store = below (codes "store") file in
    record {
      store = merge store it.store;
      at_store = table_kept (codes "store") file lower it.store (store_table (get_member (codes "store") file) dir parts.store_read) it.at_store;
      has = key_kept (codes "dir") store it.store it.has;
    }

built_in_stores : HasStore built_in_members
built_in_stores = record { store = store_members; at_store = refl; has = refl }

-- the table of the store of what sources come to, read as its directory
pub store_read : {F S : Type 0} (Is : IsFilterBy F) (IsSpec : IsSpecBy S) (features : FeatureSet) (sources : List ConfigSource) (loaded : LoadedConfig F S)
    → IsLoadedAs Is IsSpec features built_in_members sources loaded
    → (store : Members) × (store_dir_in store ≡ Ok loaded.store_dir) × (is_some (get_member (codes "dir") store) ≡ true)
store_read Is IsSpec features sources loaded it =
    let top = merged_in built_in_members sources in
    let stores = kept_in Is IsSpec features built_in_members sources loaded HasStore store_merged it built_in_stores in
    (stores.store, ap store_dir_of (sym stores.at_store) ∙ (config_parts top (merged_of loaded) it.values).store_read, stores.has)

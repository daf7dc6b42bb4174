-- Tables over others, and what is read of a file and of a merged tree.
use Rattle.std.proofs.Common.{◌≡◌, ℕ, true, List, [], ◌∷◌, codes, Option, None, Some, Ok, Err, is_some, refl, ap, ◌∙◌, ◌⊎◌, inl, inr}
use Rattle.toml.specs.Data.{Data, string, integer, float, boolean, datetime, array, table, Members, no_members, member, get_member}
use Rattle.nextest_config_elements_toml.specs.Reading.{Reading, ◌>>=◌, under}
use Rattle.nextest_config_elements_versions.specs.Demand.{experimental_in, nextest_version_in}
use Rattle.nextest_config_resolution_load.specs.Checks.{MergedConfig, config_in}
use Rattle.nextest_config_resolution_load.specs.File.{check_of, file_in, profiles_at_file, profiles_in_file, profiles_of_file, rules_in_profile, rules_of_profile, rules_with, table_values_in}
use Rattle.nextest_config_resolution_load.specs.declared.file_config.FileConfig.{FileConfig}
use Rattle.nextest_config_resolution_load.specs.declared.file_config.ProfileRules.{ProfileRules}
use Rattle.nextest_config_resolution_load.specs.declared.file_config.TableRules.{TableRules}
use Rattle.nextest_config_resolution_overrides.specs.Groups.{groups_at}
use Rattle.nextest_config_resolution_scripts.specs.Scripts.{old_scripts_at, scripts_at}
use Rattle.nextest_config_resolution_scripts.specs.declared.script_config.ScriptConfig.{ScriptConfig}
use Rattle.nextest_config_resolution_scripts.specs.Rules.{script_rules}
use Rattle.nextest_config_resolution_overrides.specs.declared.groups.NamedGroup.{NamedGroup}
use Rattle.nextest_config_resolution_overrides.specs.Overrides.{overrides}
use Rattle.nextest_config_resolution_profiles.specs.Agreeing.{inside}
use Rattle.nextest_config_resolution_tree.specs.Tree.{merge}
use Rattle.nextest_config_resolution_tree.proofs.Standings.{joint, get_merge}
use Rattle.nextest_config_elements_deserialize.specs.Tables.{IsTable}
use Rattle.nextest_config_resolution_keys.specs.File.{Named, profiles_at, profiles_in, profiles_of, store_dir_at, store_dir_in, store_dir_of}
use Rattle.nextest_config_resolution_keys.specs.Keys.{value_of}
use Rattle.nextest_config_resolution_keys.specs.Listed.{joined_parts, read_of}
use Rattle.nextest_config_resolution_keys.specs.Profile.{profile_in, profile_of, profile_tuple_in, profile_values}
use Rattle.nextest_config_resolution_keys.specs.Rows.{both, made_of, nothing}
use Rattle.nextest_config_resolution_keys.specs.declared.profile_config.ProfileConfig.{ProfileConfig}
use Rattle.nextest_config_elements_deserialize.specs.Keys.{table_by}
use Rattle.nextest_config_elements_deserialize.proofs.Parts.{table_is}

-- ---- a table over another

-- a table stands somewhere, or nothing does
abbrev pub MayBeTable : Option Data → Type 0
MayBeTable found = (found ≡ None) ⊎ ((members : Members) × (found ≡ Some (table members)))

-- the members of the table that stands at a key
abbrev pub below : List ℕ → Members → Members
below key members = inside (get_member key members)

-- over a table stands a table, or nothing: then there is a table in one over the other
pub table_kept : (key : List ℕ) (higher lower members : Members) → MayBeTable (get_member key higher) → get_member key lower ≡ Some (table members)
    → get_member key (merge higher lower) ≡ Some (table (merge (below key higher) members))
table_kept key higher lower members may there = get_merge key higher lower ∙ ap (joint (get_member key higher)) there ∙ by_found (get_member key higher) may where
  by_found : (found : Option Data) → MayBeTable found → joint found (Some (table members)) ≡ Some (table (merge (inside found) members))
  by_found found (inl e) = rw e refl
  by_found found (inr (given, e)) = rw e refl

-- a key that has something in a table has something in one over it
pub key_kept : (key : List ℕ) (higher lower : Members) → is_some (get_member key lower) ≡ true → is_some (get_member key (merge higher lower)) ≡ true
key_kept key higher lower there = ap is_some (get_merge key higher lower) ∙ by_found (get_member key higher) where
  by_found : (found : Option Data) → is_some (joint found (get_member key lower)) ≡ true
  by_found None = there
  by_found (Some value) = refl

-- ---- what is read as a table is one

pub tabled : {A : Type 0} (Is : Members → A → Type 0) (given : Data) (x : A) → IsTable Is given x → (members : Members) × (given ≡ table members) × Is members x
tabled Is (table members) x is = (members, refl, is)
tabled Is (string text) x is = absurd is
tabled Is (integer number) x is = absurd is
tabled Is (float number) x is = absurd is
tabled Is (boolean truth) x is = absurd is
tabled Is (datetime time) x is = absurd is
tabled Is (array items) x is = absurd is

pub read_table : {A : Type 0} (reading : Members → Reading A) (given : Data) (x : A) → table_by reading given ≡ Ok x
    → (members : Members) × (given ≡ table members) × (reading members ≡ Ok x)
read_table reading given x e =
    tabled (λ members y. reading members ≡ Ok y) given x (table_is reading (λ members y. reading members ≡ Ok y) (λ members y f. f) given x e)

pub under_read : {A : Type 0} (key : List ℕ) (reading : Reading A) (x : A) → under key reading ≡ Ok x → reading ≡ Ok x
under_read key (Ok y) x e = e
under_read key (Err path) x e = absurd (cc)

-- what profiles are read from
pub profiles_table : (found : Option Data) (all : List Named) → profiles_of found ≡ Ok all → MayBeTable found × (profiles_in (inside found) ≡ Ok all)
profiles_table None all e = (inl refl, e)
profiles_table (Some given) all e =
    let it = read_table profiles_in given all e in
    (inr (it.0, ap Some it.1), ap (λ given. profiles_in (inside (Some given))) it.1 ∙ it.2)

pub store_table : (found : Option Data) (dir : Option (List ℕ)) → store_dir_of found ≡ Ok dir → MayBeTable found
store_table None dir e = inl refl
store_table (Some given) dir e = let it = read_table store_dir_in given dir e in inr (it.0, ap Some it.1)

-- ---- files

-- what stands under `profile` and `store` is read as these
pub record AreRead (top : Members) (profiles : List Named) (store_dir : Option (List ℕ)) : Type 0 where
  pub profiles_read : profiles_of (get_member (codes "profile") top) ≡ Ok profiles
  pub store_read : store_dir_of (get_member (codes "store") top) ≡ Ok store_dir

-- a file whose profiles and store are read
abbrev pub IsRead : Members → Type 0
IsRead file = (profiles : List Named) × (store_dir : Option (List ℕ)) × AreRead file profiles store_dir

both_read : (top : Members) (profiles : List Named) (store_dir : Option (List ℕ)) → profiles_at top ≡ Ok profiles → store_dir_at top ≡ Ok store_dir → AreRead top profiles store_dir
both_read top profiles store_dir first second = record {
  profiles_read = under_read (codes "profile") (profiles_of (get_member (codes "profile") top)) profiles first;
  store_read = under_read (codes "store") (store_dir_of (get_member (codes "store") top)) store_dir second;
}

-- the values of a profile whose rules are read are read, too
values_too : (members : Members) (found : TableRules) → rules_in_profile members ≡ Ok found → (value : ProfileConfig) × (profile_in members ≡ Ok value)
unfolding rules_in_profile profile_in
values_too members found e =
    let made = read_of rules_with (table_values_in members) found e in
    let parts = joined_parts (profile_tuple_in members) (both (value_of overrides) (both (value_of script_rules) nothing) members) made.values made.reads in
    (profile_values made.values.0, ap (made_of profile_values) parts.0)

-- a profile, and those behind it, by what is read of each
with_others : (name : List ℕ) (first : Reading ProfileRules) (more : Reading (List ProfileRules)) (all : List ProfileRules)
    → (under name first >>= (λ one. more >>= (λ others. Ok (one ∷ others)))) ≡ Ok all
    → ((one : ProfileRules) × (first ≡ Ok one)) × ((others : List ProfileRules) × (more ≡ Ok others))
with_others name (Ok one) (Ok others) all e = ((one, refl), (others, refl))
with_others name (Ok one) (Err path) all e = absurd (cc)
with_others name (Err path) more all e = absurd (cc)

-- the table of a profile, by its overrides
of_table : (name : List ℕ) (reading : Reading TableRules) (one : ProfileRules)
    → (reading >>= (λ found. Ok (record { profile = name; overrides = found.overrides; scripts = found.scripts }))) ≡ Ok one
    → (found : TableRules) × (reading ≡ Ok found)
of_table name (Ok found) one e = (found, refl)
of_table name (Err path) one e = absurd (cc)

-- a profile and those behind it are read, where each is
listed : (name : List ℕ) (first : Reading ProfileConfig) (more : Reading (List Named)) (value : ProfileConfig) (others : List Named) → first ≡ Ok value → more ≡ Ok others
    → (under name first >>= (λ value. more >>= (λ others. Ok ((name, value) ∷ others)))) ≡ Ok ((name, value) ∷ others)
listed name first more value others e f = rw (e, f) refl

profile_value : (name : List ℕ) (given : Data) (one : ProfileRules) → rules_of_profile name given ≡ Ok one → (value : ProfileConfig) × (profile_of given ≡ Ok value)
profile_value name given one e =
    let found = of_table name (table_by rules_in_profile given) one e in
    let (members, same, read) = read_table rules_in_profile given found.0 found.1 in
    let it = values_too members found.0 read in
    (it.0, ap profile_of same ∙ it.1)

profiles_too : (members : Members) (all : List ProfileRules) → profiles_in_file members ≡ Ok all → (profiles : List Named) × (profiles_in members ≡ Ok profiles)
profiles_too no_members all e = ([], refl)
profiles_too (member name given more) all e =
    let parts = with_others name (rules_of_profile name given) (profiles_in_file more) all e in
    let value = profile_value name given parts.0.0 parts.0.1 in
    let others = profiles_too more parts.1.0 parts.1.1 in
    ((name, value.0) ∷ others.0, listed name (profile_of given) (profiles_in more) value.0 others.0 value.1 others.1)

all_too : (found : Option Data) (all : List ProfileRules) → profiles_of_file found ≡ Ok all → (profiles : List Named) × (profiles_of found ≡ Ok profiles)
all_too None all e = ([], refl)
all_too (Some given) all e =
    let (members, same, read) = read_table profiles_in_file given all e in
    let it = profiles_too members all read in
    (it.0, ap (λ given. profiles_of (Some given)) same ∙ it.1)

-- what is checked has a value
value_checked : {A : Type 0} (reading : Reading A) (done : Unit {0}) → check_of reading ≡ Ok done → (x : A) × (reading ≡ Ok x)
value_checked (Ok x) done e = (x, refl)
value_checked (Err path) done e = absurd (cc)

-- the parts of a file, by its readings
record HasParts {A : Type 0} (profiles : Reading A) (store : Reading (Unit {0})) : Type 0 where
  all : A
  profiles_are : profiles ≡ Ok all
  done : Unit {0}
  store_is : store ≡ Ok done

parts_of : {A B C D E : Type 0} (features versions : Reading (Unit {0})) (profiles : Reading A) (old : Reading D) (scripts : Reading E) (store : Reading (Unit {0})) (groups : Reading B)
    (made : A → D → E → B → C) (it : C)
    → (features >>= (λ a. versions >>= (λ b. profiles >>= (λ c. old >>= (λ o. scripts >>= (λ s. store >>= (λ d. groups >>= (λ e. Ok (made c o s e))))))))) ≡ Ok it → HasParts profiles store
parts_of (Ok a) (Ok b) (Ok all) (Ok old) (Ok scripts) (Ok done) groups made it e = record { all = all; profiles_are = refl; done = done; store_is = refl }
parts_of (Ok a) (Ok b) (Ok all) (Ok old) (Ok scripts) (Err path) groups made it e = absurd (cc)
parts_of (Ok a) (Ok b) (Ok all) (Ok old) (Err path) store groups made it e = absurd (cc)
parts_of (Ok a) (Ok b) (Ok all) (Err path) scripts store groups made it e = absurd (cc)
parts_of (Ok a) (Ok b) (Err path) old scripts store groups made it e = absurd (cc)
parts_of (Ok a) (Err path) profiles old scripts store groups made it e = absurd (cc)
parts_of (Err path) versions profiles old scripts store groups made it e = absurd (cc)

-- the values of the profiles of a file that is read are read, and so is where it stores
pub file_parts : (file : Members) (config : FileConfig) → file_in file ≡ Ok config
    → (profiles : List Named) × (store_dir : Option (List ℕ)) × AreRead file profiles store_dir
unfolding file_in
file_parts file config e =
    let parts = parts_of (check_of (experimental_in file)) (check_of (nextest_version_in file)) (profiles_at_file file) (old_scripts_at file) (scripts_at file)
    (check_of (store_dir_at file)) (groups_at file) (λ profiles old scripts groups. record { profiles = profiles; groups = groups; old_scripts = old; scripts = scripts }) config e in
    let found = get_member (codes "profile") file in
    let all = all_too found parts.all (under_read (codes "profile") (profiles_of_file found) parts.all parts.profiles_are) in
    let store = value_checked (store_dir_at file) parts.done parts.store_is in (
      all.0,
      store.0,
      record {
        profiles_read = all.1;
        store_read = under_read (codes "store") (store_dir_of (get_member (codes "store") file)) store.0 store.1;
      },
    )

-- what a merged tree says of profiles and the store, by its readings
merged_parts : (profiles : Reading (List Named)) (scripts : Reading ScriptConfig) (store_dir : Reading (Option (List ℕ))) (groups : Reading (List NamedGroup)) (config : MergedConfig)
    → (profiles >>= (λ a. scripts >>= (λ s. store_dir >>= (λ b. groups >>= (λ c. Ok (record { profiles = a; store_dir = b; groups = c; scripts = s })))))) ≡ Ok config
    → (profiles ≡ Ok config.profiles) × (store_dir ≡ Ok config.store_dir)
merged_parts (Ok all) (Ok scripts) (Ok dir) (Ok groups) config e = (cc, cc)
merged_parts (Ok all) (Ok scripts) (Ok dir) (Err path) config e = absurd (cc)
merged_parts (Ok all) (Ok scripts) (Err path) groups config e = absurd (cc)
merged_parts (Ok all) (Err path) store_dir groups config e = absurd (cc)
merged_parts (Err path) scripts store_dir groups config e = absurd (cc)

pub config_parts : (top : Members) (config : MergedConfig) → config_in top ≡ Ok config → AreRead top config.profiles config.store_dir
config_parts top config e =
    let parts = merged_parts (profiles_at top) (scripts_at top) (store_dir_at top) (groups_at top) config e in
    both_read top config.profiles config.store_dir parts.0 parts.1

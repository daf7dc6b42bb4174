-- Sources that agree but in profiles of other names: their files, and what these come to.
use Rattle.std.proofs.Common.{◌≡◌, ◌≢◌, ℕ, Bool, true, false, cond, List, [], ◌∷◌, ◌++◌, codes, map, Option, None, Some, Ok, Err, refl, sym, ap, ◌∙◌, subst, inl, inr, Ordering, Less, Equal, Greater, reverse, option_map}
use Rattle.std.specs.List.{AllByRecursion, AllZip, cons_option, filter, filter_map, find, flat_map}
use Rattle.std.specs.Option.{option_and_then, option_or}
use Rattle.std.specs.Ordering.{match_ordering, is_eq}
use Rattle.std.specs.Str.{bytes_eq}
use Rattle.std.proofs.lemmas.Bool.{false≢true}
use Rattle.std.proofs.lemmas.Map.Text.{is_eq-slice_cmp}
use Rattle.std.proofs.lemmas.Slice.Eq.{bytes_eq-Decides}
use mathlib.Core.List.{reverse-cons}
use Rattle.toml.specs.Data.{Data, table, Members, no_members, member, get_member}
use Rattle.toml.specs.Parse.{parse_document}
use Rattle.nextest_config_elements_identifiers.specs.declared.source_kind.ConfigSourceKind.{ConfigSourceKind}
use Rattle.nextest_config_elements_identifiers.specs.declared.source_kind.ConfigSourceKind.TheVariants as kinds
use Rattle.nextest_config_elements_toml.specs.Reading.{Reading, ◌>>=◌, under}
use Rattle.nextest_config_elements_versions.specs.declared.feature.FeatureSet.{FeatureSet}
use Rattle.nextest_config_resolution_inheritance.specs.Inheritance.{Name}
use Rattle.nextest_config_resolution_load.specs.Checks.{as_setup, document_checks, document_of, file_checks, file_of, scripts_over, members_of, file_with_setup, outcome_checks, tree_of_files, source_checks}
use Rattle.nextest_config_resolution_load.specs.File.{file_in}
use Rattle.nextest_config_resolution_load.specs.Load.{IsFilterBy, IsKept, IsSpecBy}
use Rattle.nextest_config_resolution_load.specs.declared.file_config.FileConfig.{FileConfig}
use Rattle.nextest_config_resolution_load.proofs.Kept.{kept_before, kept_behind}
use Rattle.nextest_config_resolution_sources.specs.Counting.{class_of, counting_sources, first_of, is_of, list_of_option, repository, same_class}
use Rattle.nextest_config_resolution_sources.specs.declared.source.ConfigSource.{ConfigSource}
use Rattle.nextest_config_resolution_sources.specs.declared.source.ConfigSourceOutcome.{ConfigSourceOutcome}
use Rattle.nextest_config_resolution_sources.specs.declared.source.ConfigSourceOutcome.TheVariants as outcome
use Rattle.nextest_config_resolution_tree.specs.Tree.{merge}
use Rattle.nextest_config_resolution_tree.proofs.Tables.{over_none}
use Rattle.nextest_config_resolution_tree.proofs.Keys.{equal_keys, key_cmp}
use Rattle.nextest_config_resolution_tree.proofs.Standings.{get_merge, joint}
use Rattle.nextest_config_resolution_keys.specs.File.{Named, profiles_in}
use Rattle.nextest_config_resolution_keys.specs.Profile.{profile_of}
use Rattle.nextest_config_resolution_keys.specs.declared.profile_config.ProfileConfig.{ProfileConfig}
use Rattle.nextest_config_resolution_profiles.specs.Agreeing.{AgreeBut, FilesAgree, SourceAgrees, SourcesAgree, inside, is_one_of, named_members, profiles_below}
use Rattle.nextest_config_resolution_profiles.specs.Config.{values_of}
use Rattle.nextest_config_resolution_profiles.proofs.Tables.{IsRead, MayBeTable, file_parts, profiles_table}

-- ---- lists side by side

module _ {A B : Type 0} (R : A → B → Type 0) where
  pub zip_append : (xs : List A) (ys : List B) (more : List A) (others : List B) → AllZip R xs ys → AllZip R more others → AllZip R (xs ++ more) (ys ++ others)
  zip_append [] [] more others all rest = rest
  zip_append [] (y ∷ ys) more others all rest = absurd all
  zip_append (x ∷ xs) [] more others all rest = absurd all
  zip_append (x ∷ xs) (y ∷ ys) more others all rest = (all.0, zip_append xs ys more others all.1 rest)

  pub zip_reverse : (xs : List A) (ys : List B) → AllZip R xs ys → AllZip R (reverse xs) (reverse ys)
  zip_reverse [] [] all = tt
  zip_reverse [] (y ∷ ys) all = absurd all
  zip_reverse (x ∷ xs) [] all = absurd all
  zip_reverse (x ∷ xs) (y ∷ ys) all =
      subst (λ (zs : List A). AllZip R zs (reverse (y ∷ ys))) (sym (reverse-cons x xs))
      (subst (λ (zs : List B). AllZip R (reverse xs ++ x ∷ []) zs) (sym (reverse-cons y ys)) (zip_append (reverse xs) (reverse ys) (x ∷ []) (y ∷ []) (zip_reverse xs ys all.1) (all.0, tt)))

  pub zip_filter : (p : A → Bool) (q : B → Bool) → ((x : A) (y : B) → R x y → q y ≡ p x) → (xs : List A) (ys : List B) → AllZip R xs ys → AllZip R (filter p xs) (filter q ys)
  zip_filter p q same [] [] all = tt
  zip_filter p q same [] (y ∷ ys) all = absurd all
  zip_filter p q same (x ∷ xs) [] all = absurd all
  zip_filter p q same (x ∷ xs) (y ∷ ys) all =
      subst (λ (b : Bool). AllZip R (filter p (x ∷ xs)) (cond b (y ∷ filter q ys) (filter q ys))) (sym (same x y all.0)) (by_test (p x) (zip_filter p q same xs ys all.1))
    where
      by_test : (b : Bool) → AllZip R (filter p xs) (filter q ys) → AllZip R (cond b (x ∷ filter p xs) (filter p xs)) (cond b (y ∷ filter q ys) (filter q ys))
      by_test true rest = (all.0, rest)
      by_test false rest = rest

  zip_or : (a c : Option A) (b d : Option B) → AllZip R (list_of_option a) (list_of_option b) → AllZip R (list_of_option c) (list_of_option d) → AllZip R (list_of_option (option_or a c)) (list_of_option (option_or b d))
  zip_or None c None d first second = second
  zip_or None c (Some y) d first second = absurd first
  zip_or (Some x) c None d first second = absurd first
  zip_or (Some x) c (Some y) d first second = first

-- ---- sources that count

module _ (names : List Name) where
  -- those of the class that a kind of sources has
  same_is_of : (wanted : ConfigSourceKind) (one other : ConfigSource) → SourceAgrees names one other → is_of (class_of wanted) other ≡ is_of (class_of wanted) one
  same_is_of wanted one other agree = ap (λ (kind : ConfigSourceKind). same_class (class_of wanted) (class_of kind)) agree.kind

  first_agree : (wanted : ConfigSourceKind) (sources others : List ConfigSource) → SourcesAgree names sources others → AllZip (SourceAgrees names) (list_of_option (first_of (class_of wanted) sources)) (list_of_option (first_of (class_of wanted) others))
  first_agree wanted [] [] all = tt
  first_agree wanted [] (other ∷ others) all = absurd all
  first_agree wanted (one ∷ sources) [] all = absurd all
  first_agree wanted (one ∷ sources) (other ∷ others) all =
      subst (λ (b : Bool). AllZip (SourceAgrees names) (list_of_option (first_of (class_of wanted) (one ∷ sources))) (list_of_option (cond b (Some other) (first_of (class_of wanted) others)))) (sym (same_is_of wanted one other all.0))
      (by_test (is_of (class_of wanted) one) (first_agree wanted sources others all.1))
    where
      by_test : (b : Bool) → AllZip (SourceAgrees names) (list_of_option (first_of (class_of wanted) sources)) (list_of_option (first_of (class_of wanted) others))
          → AllZip (SourceAgrees names) (list_of_option (cond b (Some one) (first_of (class_of wanted) sources))) (list_of_option (cond b (Some other) (first_of (class_of wanted) others)))
      by_test true rest = (all.0, tt)
      by_test false rest = rest

  pub counted_agree : (sources others : List ConfigSource) → SourcesAgree names sources others → SourcesAgree names (counting_sources sources) (counting_sources others)
  counted_agree sources others all =
      let is_of_tool = is_of (class_of (kinds.Tool [])) in
      let explicit = class_of kinds.ExplicitRepository in
      let discovered = class_of kinds.DiscoveredRepository in
      let tools = zip_filter (SourceAgrees names) is_of_tool is_of_tool (same_is_of (kinds.Tool [])) sources others all in
      let repository_agrees = zip_or (SourceAgrees names) (first_of explicit sources) (first_of discovered sources) (first_of explicit others) (first_of discovered others)
      (first_agree kinds.ExplicitRepository sources others all) (first_agree kinds.DiscoveredRepository sources others all) in
      zip_append (SourceAgrees names) (reverse (filter is_of_tool sources)) (reverse (filter is_of_tool others)) (list_of_option (repository sources)) (list_of_option (repository others))
      (zip_reverse (SourceAgrees names) (filter is_of_tool sources) (filter is_of_tool others) tools) repository_agrees

  -- their files
  one_more : (a b : Option Members) (files others : List Members) → FilesAgree names a b → AllZip (AgreeBut names) files others → AllZip (AgreeBut names) (cons_option a files) (cons_option b others)
  one_more None None files others agree more = more
  one_more None (Some other) files others agree more = absurd agree
  one_more (Some one) None files others agree more = absurd agree
  one_more (Some one) (Some other) files others agree more = (agree, more)

  pub files_agree : (sources others : List ConfigSource) → SourcesAgree names sources others → AllZip (AgreeBut names) (filter_map file_of sources) (filter_map file_of others)
  files_agree [] [] all = tt
  files_agree [] (other ∷ others) all = absurd all
  files_agree (one ∷ sources) [] all = absurd all
  files_agree (one ∷ sources) (other ∷ others) all = one_more (file_of one) (file_of other) (filter_map file_of sources) (filter_map file_of others) all.0.file (files_agree sources others all.1)

-- ---- files that are read

-- a file that stands in a source is read
abbrev pub FileIsRead : Option Members → Type 0
FileIsRead None = Unit {0}
FileIsRead (Some file) = (config : FileConfig) × (file_in file ≡ Ok config)

module _ {F S : Type 0} (Is : IsFilterBy F) (IsSpec : IsSpecBy S) (features : FeatureSet) where
  read_ok : (path : List ℕ) (kind : ConfigSourceKind) (reading : Reading FileConfig) → AllByRecursion (IsKept Is IsSpec) (file_checks features path kind reading) → (config : FileConfig) × (reading ≡ Ok config)
  read_ok path kind (Ok config) kept = (config, refl)
  read_ok path kind (Err keys) kept = absurd kept.0

  document_read : (path : List ℕ) (kind : ConfigSourceKind) (found : Option Members) → AllByRecursion (IsKept Is IsSpec) (document_checks features path kind found) → FileIsRead found
  document_read path kind None kept = tt
  document_read path kind (Some file) kept = read_ok path kind (file_in file) kept

  outcome_read : (path : List ℕ) (kind : ConfigSourceKind) (outcome : ConfigSourceOutcome) → AllByRecursion (IsKept Is IsSpec) (outcome_checks features path kind outcome) → FileIsRead (document_of outcome)
  outcome_read path kind (outcome.Text text) kept = document_read path kind (parse_document text) kept
  outcome_read path kind outcome.NotFound kept = tt
  outcome_read path kind (outcome.Failed cause) kept = tt

  pub sources_read : (sources : List ConfigSource) → AllByRecursion (IsKept Is IsSpec) (flat_map (source_checks features) sources) → AllByRecursion (λ source. FileIsRead (file_of source)) sources
  sources_read [] kept = tt
  sources_read (source ∷ more) kept = (
    outcome_read source.path source.kind source.outcome (kept_before Is IsSpec (source_checks features source) (flat_map (source_checks features) more) kept),
    sources_read more (kept_behind Is IsSpec (source_checks features source) (flat_map (source_checks features) more) kept),
  )

one_read : (file : Option Members) (files : List Members) → FileIsRead file → AllByRecursion IsRead files → AllByRecursion IsRead (cons_option file files)
one_read None files here more = more
one_read (Some file) files (config, read) more = (file_parts file config read, more)

pub files_read : (sources : List ConfigSource) → AllByRecursion (λ source. FileIsRead (file_of source)) sources → AllByRecursion IsRead (filter_map file_of sources)
files_read [] all = tt
files_read (source ∷ more) all = one_read (file_of source) (filter_map file_of more) all.0 (files_read more all.1)

-- ---- files whose setup scripts are moved

-- two keys of different bytes
pub apart : (one other : List ℕ) → bytes_eq one other ≡ false → one ≢ other
apart one other differ e = false≢true (sym differ ∙ (bytes_eq-Decides one other).1 e)

profile_key_of_moved : (given : Data) (file : Members) → get_member (codes "profile") (merge (as_setup given) file) ≡ get_member (codes "profile") file
profile_key_of_moved given file = get_merge (codes "profile") (as_setup given) file

pub moved_agree : (names : List Name) (one other : Members) → AgreeBut names one other → AgreeBut names (file_with_setup one) (file_with_setup other)
moved_agree names one other agree =
    subst (λ (found : Option Data). AgreeBut names (file_with_setup one) (scripts_over (option_map as_setup found) other)) (sym (agree.elsewhere (codes "script") (apart (codes "script") (codes "profile") refl)))
    (by_scripts (get_member (codes "script") one))
  where
    by_scripts : (found : Option Data) → AgreeBut names (scripts_over (option_map as_setup found) one) (scripts_over (option_map as_setup found) other)
    by_scripts None = agree
    by_scripts (Some given) = record {
      elsewhere = λ key differs.
          get_merge key (as_setup given) other ∙ ap (joint (get_member key (as_setup given))) (agree.elsewhere key differs) ∙ sym (get_merge key (as_setup given) one);
      profiles =
          ap (λ (found : Option Data). named_members names (inside found)) (profile_key_of_moved given other) ∙ agree.profiles
          ∙ sym (ap (λ (found : Option Data). named_members names (inside found)) (profile_key_of_moved given one));
    }

pub all_moved_agree : (names : List Name) (files others : List Members) → AllZip (AgreeBut names) files others → AllZip (AgreeBut names) (map file_with_setup files) (map file_with_setup others)
all_moved_agree names [] [] all = tt
all_moved_agree names [] (other ∷ others) all = absurd all
all_moved_agree names (one ∷ files) [] all = absurd all
all_moved_agree names (one ∷ files) (other ∷ others) all = (moved_agree names one other all.0, all_moved_agree names files others all.1)

-- ---- what a table has under a name

-- by what it has under some names, of which it is one
abbrev found_in : List ℕ → List (List ℕ × Data) → Option Data
found_in name [] = None
found_in name (entry ∷ more) = match_ordering (key_cmp name entry.0) (found_in name more) (Some entry.1) (found_in name more)

get_named : (names : List Name) (name : List ℕ) → is_one_of names name ≡ true → (members : Members) → get_member name members ≡ found_in name (named_members names members)
get_named names name known no_members = refl
get_named names name known (member key value more) = by_name (is_one_of names key) refl (key_cmp name key) refl (get_named names name known more)
  where
    at : Ordering → Option Data
    at order = match_ordering order (get_member name more) (Some value) (get_member name more)

    passed : (order : Ordering) → key_cmp name key ≡ order → at order ≡ found_in name (named_members names more) → at (key_cmp name key) ≡ found_in name (named_members names more)
    passed order f rest = ap at f ∙ rest

    by_name : (test : Bool) → is_one_of names key ≡ test → (order : Ordering) → key_cmp name key ≡ order → get_member name more ≡ found_in name (named_members names more)
        → match_ordering (key_cmp name key) (get_member name more) (Some value) (get_member name more)
        ≡ found_in name (cond test ((key, value) ∷ named_members names more) (named_members names more))
    by_name true e order f rest = ap (λ (found : Option Data). match_ordering (key_cmp name key) found (Some value) found) rest
    by_name false e Less f rest = passed Less f rest
    by_name false e Greater f rest = passed Greater f rest
    by_name false e Equal f rest = absurd (false≢true (sym e ∙ ap (is_one_of names) (sym (equal_keys name key f)) ∙ known))

pub same_named : (names : List Name) (name : List ℕ) (one other : Members) → is_one_of names name ≡ true → named_members names other ≡ named_members names one → get_member name other ≡ get_member name one
same_named names name one other known same = get_named names name known other ∙ ap (found_in name) same ∙ sym (get_named names name known one)

-- ---- merged trees

-- two trees have the same but in profiles of other names
pub record AreLike (names : List Name) (one other : Members) : Type 0 where
  pub elsewhere : (key : List ℕ) → key ≢ codes "profile" → get_member key other ≡ get_member key one
  pub table : MayBeTable (get_member (codes "profile") one)
  pub other_table : MayBeTable (get_member (codes "profile") other)
  pub named : (name : List ℕ) → is_one_of names name ≡ true → get_member name (profiles_below other) ≡ get_member name (profiles_below one)

-- a table over another, or over nothing
joint_table : (higher lower : Option Data) → MayBeTable higher → MayBeTable lower → MayBeTable (joint higher lower)
joint_table higher lower (inl none) may = rw none may
joint_table higher lower (inr (members, is)) (inl none) = rw (is, none) (inr (members, refl))
joint_table higher lower (inr (members, is)) (inr (others, also)) = rw (is, also) (inr (merge members others, refl))

-- what it has under a name
alone : (found : Option Data) → found ≡ joint found None
alone None = refl
alone (Some value) = ap Some (sym (over_none value))

joint_named : (name : List ℕ) (higher lower : Option Data) → MayBeTable higher → MayBeTable lower
    → get_member name (inside (joint higher lower)) ≡ joint (get_member name (inside higher)) (get_member name (inside lower))
joint_named name higher lower (inl none) may = rw none refl
joint_named name higher lower (inr (members, is)) (inl none) = rw (is, none) (alone (get_member name members))
joint_named name higher lower (inr (members, is)) (inr (others, also)) = rw (is, also) (get_merge name members others)

below_merge : (name : List ℕ) (file lower : Members) → MayBeTable (get_member (codes "profile") file) → MayBeTable (get_member (codes "profile") lower)
    → get_member name (profiles_below (merge file lower)) ≡ joint (get_member name (profiles_below file)) (get_member name (profiles_below lower))
below_merge name file lower may also =
    ap (λ (found : Option Data). get_member name (inside found)) (get_merge (codes "profile") file lower)
    ∙ joint_named name (get_member (codes "profile") file) (get_member (codes "profile") lower) may also

file_table : (file : Members) → IsRead file → MayBeTable (get_member (codes "profile") file)
file_table file (profiles, store_dir, parts) = (profiles_table (get_member (codes "profile") file) profiles parts.profiles_read).0

merged_alike : (names : List Name) (file other lower below : Members) → AgreeBut names file other → IsRead file → IsRead other → AreLike names lower below → AreLike names (merge file lower) (merge other below)
merged_alike names file other lower below agree read other_read alike =
    let may = file_table file read in
    let other_may = file_table other other_read in
    record {
      elsewhere = λ key differs.
          get_merge key other below ∙ ap (λ (found : Option Data). joint found (get_member key below)) (agree.elsewhere key differs)
          ∙ ap (joint (get_member key file)) (alike.elsewhere key differs) ∙ sym (get_merge key file lower);
      table = subst MayBeTable (sym (get_merge (codes "profile") file lower)) (joint_table (get_member (codes "profile") file) (get_member (codes "profile") lower) may alike.table);
      other_table = subst MayBeTable (sym (get_merge (codes "profile") other below)) (joint_table (get_member (codes "profile") other) (get_member (codes "profile") below) other_may alike.other_table);
      named = λ name known.
          below_merge name other below other_may alike.other_table
          ∙ ap (λ (found : Option Data). joint found (get_member name (profiles_below below))) (same_named names name (profiles_below file) (profiles_below other) known agree.profiles)
          ∙ ap (joint (get_member name (profiles_below file))) (alike.named name known) ∙ sym (below_merge name file lower may alike.table);
    }

pub raised_alike : (names : List Name) (files others : List Members) (lower below : Members) → AllZip (AgreeBut names) files others → AllByRecursion IsRead files → AllByRecursion IsRead others
    → AreLike names lower below → AreLike names (members_of (tree_of_files (table lower) files)) (members_of (tree_of_files (table below) others))
raised_alike names [] [] lower below all read other_read alike = alike
raised_alike names [] (other ∷ others) lower below all read other_read alike = absurd all
raised_alike names (file ∷ files) [] lower below all read other_read alike = absurd all
raised_alike names (file ∷ files) (other ∷ others) lower below all read other_read alike =
    raised_alike names files others (merge file lower) (merge other below) all.1 read.1 other_read.1 (merged_alike names file other lower below all.0 read.0 other_read.0 alike)

-- ---- the values of a profile

-- what a profile that is read is
abbrev pub value_of : Reading ProfileConfig → Option ProfileConfig
value_of (Ok value) = Some value
value_of (Err path) = None

abbrev pub read_value : Option Data → Option ProfileConfig
read_value found = option_and_then (λ given. value_of (profile_of given)) found

abbrev pub value_at : Name → Members → Option ProfileConfig
value_at name members = read_value (get_member name members)

first_value : (name key : List ℕ) (given : Data) (more : Members) (value : ProfileConfig) (others : List Named) → profile_of given ≡ Ok value → values_of others name ≡ value_at name more
    → values_of ((key, value) ∷ others) name ≡ value_at name (member key given more)
first_value name key given more value others e rest = ap pick (sym (is_eq-slice_cmp name key)) ∙ by_order (key_cmp name key)
  where
    pick : Bool → Option ProfileConfig
    pick same = option_map (λ (it : Named). it.1) (cond same (Some (key, value)) (find (λ (it : Named). bytes_eq name it.0) others))

    at : Ordering → Option ProfileConfig
    at order = read_value (match_ordering order (get_member name more) (Some given) (get_member name more))

    by_order : (order : Ordering) → pick (is_eq order) ≡ at order
    by_order Less = rest
    by_order Greater = rest
    by_order Equal = ap value_of (sym e)

pub value_named : (name : List ℕ) (members : Members) (all : List Named) → profiles_in members ≡ Ok all → values_of all name ≡ value_at name members
value_named name no_members all e = let same : all ≡ [] = cc in ap (λ (profiles : List Named). values_of profiles name) same
value_named name (member key given more) all e = by_parts (profile_of given) refl (profiles_in more) refl (λ others g. value_named name more others g) e
  where
    by_parts : (first : Reading ProfileConfig) → profile_of given ≡ first → (second : Reading (List Named)) → profiles_in more ≡ second
        → ((others : List Named) → profiles_in more ≡ Ok others → values_of others name ≡ value_at name more)
        → (under key first >>= (λ profile. second >>= (λ profiles. Ok ((key, profile) ∷ profiles)))) ≡ Ok all → values_of all name ≡ value_at name (member key given more)
    by_parts (Ok value) f (Ok others) g rest h =
        let same : all ≡ (key, value) ∷ others = cc in
        ap (λ (profiles : List Named). values_of profiles name) same ∙ first_value name key given more value others f (rest others g)
    by_parts (Ok value) f (Err path) g rest h = absurd (let k = h in cc)
    by_parts (Err path) f second g rest h = absurd (let k = h in cc)

-- The rules of profiles of some names depend on what files have of these profiles alone.
use Rattle.std.proofs.Common.{◌≡◌, ℕ, Bool, true, false, cond, List, [], ◌∷◌, ◌++◌, codes, map, Option, None, Some, Ok, Err, refl, sym, ap, ◌∙◌}
use Rattle.std.specs.List.{AllByRecursion, AllZip, Contains, enumerate_from, filter, flat_map}
use Rattle.std.specs.Str.{bytes_eq}
use Rattle.std.proofs.lemmas.Bool.{false≢true}
use Rattle.std.proofs.lemmas.List.Elements.{All-contains_itself, filter-append, recursion_from_All}
use Rattle.std.proofs.lemmas.Slice.Eq.{bytes_eq-Decides}
use Rattle.toml.specs.Data.{Data, Members, no_members, member, get_member}
use Rattle.nextest_config_elements_deserialize.specs.Keys.{table_by}
use Rattle.nextest_config_elements_toml.specs.Reading.{Reading, ◌>>=◌, under}
use Rattle.nextest_config_elements_versions.specs.Demand.{experimental_in, nextest_version_in}
use Rattle.nextest_config_resolution_inheritance.specs.Inheritance.{Name}
use Rattle.nextest_config_resolution_load.specs.Checks.{FileRules, file_of, rules_in, rules_in_file, rules_of_source}
use Rattle.nextest_config_resolution_load.specs.File.{check_of, file_in, profiles_at_file, profiles_in_file, profiles_of_file, rules_in_profile, rules_of_profile}
use Rattle.nextest_config_resolution_load.specs.declared.file_config.FileConfig.{FileConfig}
use Rattle.nextest_config_resolution_load.specs.declared.file_config.ProfileRules.{ProfileRules}
use Rattle.nextest_config_resolution_overrides.specs.Groups.{groups_at}
use Rattle.nextest_config_resolution_overrides.specs.declared.groups.NamedGroup.{NamedGroup}
use Rattle.nextest_config_resolution_load.specs.declared.file_config.TableRules.{TableRules}
use Rattle.nextest_config_resolution_scripts.specs.Scripts.{old_scripts_at, scripts_at}
use Rattle.nextest_config_resolution_scripts.specs.declared.script_config.NamedScript.{NamedScript}
use Rattle.nextest_config_resolution_scripts.specs.declared.script_config.ScriptConfig.{ScriptConfig}
use Rattle.nextest_config_resolution_scripts.specs.declared.setup_script.SetupScriptConfig.{SetupScriptConfig}
use Rattle.nextest_config_resolution_settings.specs.Rules.{is_of_profile, rules_of}
use Rattle.nextest_config_resolution_sources.specs.declared.source.ConfigSource.{ConfigSource}
use Rattle.nextest_config_resolution_keys.specs.File.{store_dir_at}
use Rattle.nextest_config_resolution_profiles.specs.Agreeing.{FilesAgree, SourceAgrees, inside, is_one_of, named_members, profiles_below}
use Rattle.nextest_config_resolution_profiles.proofs.Agreeing.{FileIsRead}
use Rattle.nextest_config_resolution_profiles.proofs.Enabling.{among_back}
use Rattle.nextest_config_resolution_profiles.proofs.Tables.{read_table, under_read}

-- ---- the profiles of a file

-- what is read of a file has the profiles that are read of it
profiles_part : (features versions : Reading (Unit {0})) (profiles : Reading (List ProfileRules)) (old : Reading (List (NamedScript SetupScriptConfig))) (scripts : Reading ScriptConfig) (store : Reading (Unit {0}))
    (groups : Reading (List NamedGroup)) (it : FileConfig)
    → (features >>= (λ a. versions >>= (λ b. profiles >>= (λ c. old >>= (λ o. scripts >>= (λ s. store >>= (λ d. groups >>= (λ e. Ok (record { profiles = c; groups = e; old_scripts = o; scripts = s }))))))))) ≡ Ok it
    → profiles ≡ Ok it.profiles
profiles_part (Ok a) (Ok b) (Ok all) (Ok old) (Ok scripts) (Ok done) (Ok groups) it e = cc
profiles_part (Ok a) (Ok b) (Ok all) (Ok old) (Ok scripts) (Ok done) (Err path) it e = absurd (cc)
profiles_part (Ok a) (Ok b) (Ok all) (Ok old) (Ok scripts) (Err path) groups it e = absurd (cc)
profiles_part (Ok a) (Ok b) (Ok all) (Ok old) (Err path) store groups it e = absurd (cc)
profiles_part (Ok a) (Ok b) (Ok all) (Err path) scripts store groups it e = absurd (cc)
profiles_part (Ok a) (Ok b) (Err path) old scripts store groups it e = absurd (cc)
profiles_part (Ok a) (Err path) profiles old scripts store groups it e = absurd (cc)
profiles_part (Err path) versions profiles old scripts store groups it e = absurd (cc)

table_part : (found : Option Data) (all : List ProfileRules) → profiles_of_file found ≡ Ok all → profiles_in_file (inside found) ≡ Ok all
table_part None all e = e
table_part (Some given) all e =
    let it = read_table profiles_in_file given all e in
    ap (λ (found : Data). profiles_in_file (inside (Some found))) it.1 ∙ it.2

profiles_of_config : (file : Members) (config : FileConfig) → file_in file ≡ Ok config → profiles_in_file (profiles_below file) ≡ Ok config.profiles
unfolding file_in
profiles_of_config file config e =
    let all = profiles_part (check_of (experimental_in file)) (check_of (nextest_version_in file)) (profiles_at_file file) (old_scripts_at file) (scripts_at file) (check_of (store_dir_at file)) (groups_at file) config e in
    table_part (get_member (codes "profile") file) config.profiles (under_read (codes "profile") (profiles_of_file (get_member (codes "profile") file)) config.profiles all)

-- a profile that is read has the name of its key
key_of : (key : List ℕ) (given : Data) (one : ProfileRules) → rules_of_profile key given ≡ Ok one → one.profile ≡ key
key_of key given one e = by_rules (table_by rules_in_profile given) e
  where
    by_rules : (rules : Reading TableRules) → (rules >>= (λ found. Ok (record { profile = key; overrides = found.overrides; scripts = found.scripts }))) ≡ Ok one → one.profile ≡ key
    by_rules (Ok found) h = let same : record { profile = key; overrides = found.overrides; scripts = found.scripts } ≡ one = cc in ap (λ (it : ProfileRules). it.profile) (sym same)
    by_rules (Err keys) h = absurd (let k = h in cc)

-- each of some names is one of them
pub each_known : (names : List Name) → AllByRecursion (λ name. is_one_of names name ≡ true) names
each_known names = all_known names (recursion_from_All (Contains names) names (All-contains_itself names))
  where
    all_known : (some : List Name) → AllByRecursion (Contains names) some → AllByRecursion (λ name. is_one_of names name ≡ true) some
    all_known [] all = tt
    all_known (name ∷ some) all = (among_back name names all.0, all_known some all.1)

-- ---- the rules of a profile

module _ {R C : Type 0} (name_of : R → List ℕ) (of_config : ProfileRules → List C) (place : List ℕ → List ℕ → ℕ × C → R) (placed : (path profile : List ℕ) (it : ℕ × C) → name_of (place path profile it) ≡ profile) where
  -- those of a profile in a file, and of all
  abbrev here : List ℕ → ProfileRules → List R
  here path it = map (place path it.profile) (enumerate_from 0 (of_config it))

  abbrev all_here : List ℕ → List ProfileRules → List R
  all_here path profiles = flat_map (here path) profiles

  -- of which a profile's name chooses all or none
  chosen : (path profile name : List ℕ) (its : List (ℕ × C)) → filter (is_of_profile name_of name) (map (place path profile) its) ≡ cond (bytes_eq profile name) (map (place path profile) its) []
  chosen path profile name [] = by_test (bytes_eq profile name)
    where
      by_test : (test : Bool) → ◌≡◌ {A = List R} [] (cond test [] [])
      by_test true = refl
      by_test false = refl
  chosen path profile name (it ∷ its) =
      ap (λ (test : Bool). cond test (place path profile it ∷ filter (is_of_profile name_of name) (map (place path profile) its)) (filter (is_of_profile name_of name) (map (place path profile) its)))
      (ap (λ (own : List ℕ). bytes_eq own name) (placed path profile it))
      ∙ by_test (bytes_eq profile name) (chosen path profile name its)
    where
      by_test : (test : Bool) → filter (is_of_profile name_of name) (map (place path profile) its) ≡ cond test (map (place path profile) its) []
          → cond test (place path profile it ∷ filter (is_of_profile name_of name) (map (place path profile) its)) (filter (is_of_profile name_of name) (map (place path profile) its))
          ≡ cond test (place path profile it ∷ map (place path profile) its) []
      by_test true rest = ap (λ (more : List R). place path profile it ∷ more) rest
      by_test false rest = rest

  -- by what is read of each
  abbrev of_reading : List ℕ → Reading ProfileRules → List R
  of_reading path (Ok it) = here path it
  of_reading path (Err keys) = []

  abbrev by_members : List ℕ → List ℕ → List (List ℕ × Data) → List R
  by_members path name [] = []
  by_members path name (entry ∷ more) = cond (bytes_eq entry.0 name) (of_reading path (rules_of_profile entry.0 entry.1)) [] ++ by_members path name more

  -- the rules of a profile are those of the members of its name
  own_rules : (names : List Name) (path name : List ℕ) → is_one_of names name ≡ true → (members : Members) (all : List ProfileRules) → profiles_in_file members ≡ Ok all
      → filter (is_of_profile name_of name) (all_here path all) ≡ by_members path name (named_members names members)
  own_rules names path name known no_members all e = let same : all ≡ [] = cc in ap (λ (profiles : List ProfileRules). filter (is_of_profile name_of name) (all_here path profiles)) same
  own_rules names path name known (member key given more) all e =
      by_parts (rules_of_profile key given) refl (profiles_in_file more) refl (λ others g. own_rules names path name known more others g) e
    where
      named_key : (one : ProfileRules) → rules_of_profile key given ≡ Ok one → one.profile ≡ key
      named_key one f = key_of key given one f

      by_known : (one : ProfileRules) → rules_of_profile key given ≡ Ok one → (others : List ProfileRules)
          → filter (is_of_profile name_of name) (all_here path others) ≡ by_members path name (named_members names more) → (test : Bool) → is_one_of names key ≡ test
          → cond (bytes_eq key name) (here path one) [] ++ filter (is_of_profile name_of name) (all_here path others)
          ≡ by_members path name (cond test ((key, given) ∷ named_members names more) (named_members names more))
      by_known one f others rest true g =
          ap (λ (front : List R). cond (bytes_eq key name) front [] ++ filter (is_of_profile name_of name) (all_here path others)) (ap (of_reading path) (sym f))
          ∙ ap (λ (behind : List R). cond (bytes_eq key name) (of_reading path (rules_of_profile key given)) [] ++ behind) rest
      by_known one f others rest false g = ap (λ (test : Bool). cond test (here path one) [] ++ filter (is_of_profile name_of name) (all_here path others)) (other_key (bytes_eq key name) refl) ∙ rest
        where
          other_key : (test : Bool) → bytes_eq key name ≡ test → test ≡ false
          other_key false h = refl
          other_key true h = absurd (false≢true (sym g ∙ ap (is_one_of names) ((bytes_eq-Decides key name).0 h) ∙ known))

      by_parts : (first : Reading ProfileRules) → rules_of_profile key given ≡ first → (second : Reading (List ProfileRules)) → profiles_in_file more ≡ second
          → ((others : List ProfileRules) → profiles_in_file more ≡ Ok others → filter (is_of_profile name_of name) (all_here path others) ≡ by_members path name (named_members names more))
          → (under key first >>= (λ one. second >>= (λ others. Ok (one ∷ others)))) ≡ Ok all
          → filter (is_of_profile name_of name) (all_here path all) ≡ by_members path name (named_members names (member key given more))
      by_parts (Ok one) f (Ok others) g rest h =
          let same : all ≡ one ∷ others = cc in
          ap (λ (profiles : List ProfileRules). filter (is_of_profile name_of name) (all_here path profiles)) same
          ∙ filter-append (is_of_profile name_of name) (here path one) (all_here path others)
          ∙ ap (λ (front : List R). front ++ filter (is_of_profile name_of name) (all_here path others)) (chosen path one.profile name (enumerate_from 0 (of_config one)))
          ∙ ap (λ (own : List ℕ). cond (bytes_eq own name) (here path one) [] ++ filter (is_of_profile name_of name) (all_here path others)) (named_key one f)
          ∙ by_known one f others (rest others g) (is_one_of names key) refl
      by_parts (Ok one) f (Err keys) g rest h = absurd (let k = h in cc)
      by_parts (Err keys) f second g rest h = absurd (let k = h in cc)

  -- so files that agree have the same, however a file's rules are told
  module _ (part : FileRules → List R) (part_is : (path : List ℕ) (config : FileConfig) → part (rules_in_file path (Ok config)) ≡ all_here path config.profiles) (names : List Name) where
    read_rules : (path name : List ℕ) → is_one_of names name ≡ true → (file : Members) → FileIsRead (Some file)
        → filter (is_of_profile name_of name) (part (rules_in path (Some file))) ≡ by_members path name (named_members names (profiles_below file))
    read_rules path name known file (config, read) =
        ap (λ (reading : Reading FileConfig). filter (is_of_profile name_of name) (part (rules_in_file path reading))) read
        ∙ ap (filter (is_of_profile name_of name)) (part_is path config)
        ∙ own_rules names path name known (profiles_below file) config.profiles (profiles_of_config file config read)

    file_rules : (path name : List ℕ) → is_one_of names name ≡ true → (one other : Option Members) → FilesAgree names one other → FileIsRead one → FileIsRead other
        → filter (is_of_profile name_of name) (part (rules_in path other)) ≡ filter (is_of_profile name_of name) (part (rules_in path one))
    file_rules path name known None None agree read also = refl
    file_rules path name known None (Some other) agree read also = absurd agree
    file_rules path name known (Some one) None agree read also = absurd agree
    file_rules path name known (Some one) (Some other) agree read also =
        read_rules path name known other also ∙ ap (by_members path name) agree.profiles ∙ sym (read_rules path name known one read)

    -- sources that agree and are read
    abbrev AgreeAndAreRead : ConfigSource → ConfigSource → Type 0
    AgreeAndAreRead one other = SourceAgrees names one other × FileIsRead (file_of one) × FileIsRead (file_of other)

    abbrev of_sources : List ConfigSource → List R
    of_sources sources = flat_map (λ source. part (rules_of_source source)) sources

    source_rules : (name : List ℕ) → is_one_of names name ≡ true → (sources others : List ConfigSource) → AllZip AgreeAndAreRead sources others
        → filter (is_of_profile name_of name) (of_sources others) ≡ filter (is_of_profile name_of name) (of_sources sources)
    source_rules name known [] [] all = refl
    source_rules name known [] (other ∷ others) all = absurd all
    source_rules name known (one ∷ sources) [] all = absurd all
    source_rules name known (one ∷ sources) (other ∷ others) ((agree, read, also), more) =
        let choose = filter (is_of_profile name_of name) in
        let first : choose (part (rules_of_source other)) ≡ choose (part (rules_of_source one)) =
        ap (λ (path : List ℕ). choose (part (rules_in path (file_of other)))) agree.path ∙ file_rules one.path name known (file_of one) (file_of other) agree.file read also in
        filter-append (is_of_profile name_of name) (part (rules_of_source other)) (of_sources others)
        ∙ ap (λ (front : List R). front ++ choose (of_sources others)) first
        ∙ ap (λ (behind : List R). choose (part (rules_of_source one)) ++ behind) (source_rules name known sources others more)
        ∙ sym (filter-append (is_of_profile name_of name) (part (rules_of_source one)) (of_sources sources))

    -- the rules of each of the names
    rules_of_some : (some : List Name) → AllByRecursion (λ name. is_one_of names name ≡ true) some → (sources others : List ConfigSource) → AllZip AgreeAndAreRead sources others
        → rules_of name_of (of_sources others) some ≡ rules_of name_of (of_sources sources) some
    rules_of_some [] known sources others all = refl
    rules_of_some (name ∷ some) known sources others all =
        ap (λ (front : List R). front ++ rules_of name_of (of_sources others) some) (source_rules name known.0 sources others all)
        ∙ ap (λ (behind : List R). filter (is_of_profile name_of name) (of_sources sources) ++ behind) (rules_of_some some known.1 sources others all)

    pub same_rules : (sources others : List ConfigSource) → AllZip AgreeAndAreRead sources others → rules_of name_of (of_sources others) names ≡ rules_of name_of (of_sources sources) names
    same_rules sources others all = rules_of_some names (each_known names) sources others all

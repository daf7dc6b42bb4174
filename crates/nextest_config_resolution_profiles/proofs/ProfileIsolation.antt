-- Sources that agree but in profiles of other names come to configurations that are the same in
-- those of these names.
use Rattle.std.proofs.Common.{◌≡◌, ℕ, true, List, [], ◌∷◌, codes, map, Option, Ok, Err, refl, sym, ap, ◌∙◌, inr, reverse}
use Rattle.std.specs.List.{AllByRecursion, AllZip, filter_map}
use Rattle.std.proofs.lemmas.List.Elements.{All-from_recursion}
use Rattle.toml.specs.Data.{Data, Members, get_member}
use Rattle.nextest_config_elements_toml.specs.Reading.{Reading, ◌>>=◌, under}
use Rattle.nextest_config_elements_versions.specs.declared.feature.FeatureSet.{FeatureSet}
use Rattle.nextest_config_resolution_inheritance.specs.Inheritance.{Name}
use Rattle.nextest_config_resolution_load.specs.Checks.{MergedConfig, config_in, file_of, merged_in, file_with_setup}
use Rattle.nextest_config_resolution_load.specs.Load.{IsFilterBy, IsLoadedAs, IsSpecBy, merged_of}
use Rattle.nextest_config_resolution_load.specs.Rules.{placed_at, script_placed_at}
use Rattle.nextest_config_resolution_load.specs.declared.loaded_config.LoadedConfig.{LoadedConfig}
use Rattle.nextest_config_resolution_load.proofs.Kept.{kept_sources}
use Rattle.nextest_config_resolution_overrides.specs.Groups.{groups_at, groups_of}
use Rattle.nextest_config_resolution_overrides.specs.declared.groups.NamedGroup.{NamedGroup}
use Rattle.nextest_config_resolution_scripts.specs.Scripts.{scripts_at, scripts_of}
use Rattle.nextest_config_resolution_scripts.specs.declared.script_config.ScriptConfig.{ScriptConfig}
use Rattle.nextest_config_resolution_settings.specs.Rules.{profile_of, script_profile_of}
use Rattle.nextest_config_resolution_sources.specs.Counting.{counting_sources}
use Rattle.nextest_config_resolution_sources.specs.declared.source.ConfigSource.{ConfigSource}
use Rattle.nextest_config_resolution_keys.specs.File.{Named, profiles_at, profiles_of, store_dir_at, store_dir_of}
use Rattle.nextest_config_resolution_profiles.specs.Agreeing.{ProfileIsolation, SourceAgrees, is_one_of, profiles_below}
use Rattle.nextest_config_resolution_profiles.specs.BuiltIn.{built_in_members}
use Rattle.nextest_config_resolution_profiles.specs.Config.{values_of}
use Rattle.nextest_config_resolution_profiles.proofs.Agreeing.{AreLike, FileIsRead, apart, all_moved_agree, counted_agree, files_agree, files_read, raised_alike, read_value, sources_read, value_named, zip_reverse}
use Rattle.nextest_config_resolution_profiles.proofs.AgreeingRules.{each_known, same_rules}
use Rattle.nextest_config_resolution_profiles.proofs.Kept.{moved_have}
use Rattle.nextest_config_resolution_profiles.proofs.Tables.{profiles_table}

-- ---- lists side by side, of which each has something

zip_with : {A B : Type 0} (R : A → B → Type 0) (P : A → Type 0) (Q : B → Type 0) (xs : List A) (ys : List B) → AllZip R xs ys → AllByRecursion P xs → AllByRecursion Q ys
    → AllZip (λ x y. R x y × P x × Q y) xs ys
zip_with R P Q [] [] all first second = tt
zip_with R P Q [] (y ∷ ys) all first second = absurd all
zip_with R P Q (x ∷ xs) [] all first second = absurd all
zip_with R P Q (x ∷ xs) (y ∷ ys) all first second = ((all.0, first.0, second.0), zip_with R P Q xs ys all.1 first.1 second.1)

-- ---- what a merged tree says, by its readings

pub record Says (top : Members) (config : MergedConfig) : Type 0 where
  pub profiles : profiles_at top ≡ Ok config.profiles
  pub scripts : scripts_at top ≡ Ok config.scripts
  pub store_dir : store_dir_at top ≡ Ok config.store_dir
  pub groups : groups_at top ≡ Ok config.groups

says_by : (profiles : Reading (List Named)) (scripts : Reading ScriptConfig) (store_dir : Reading (Option (List ℕ))) (groups : Reading (List NamedGroup)) (config : MergedConfig)
    → (profiles >>= (λ a. scripts >>= (λ s. store_dir >>= (λ b. groups >>= (λ c. Ok (record { profiles = a; store_dir = b; groups = c; scripts = s })))))) ≡ Ok config
    → (profiles ≡ Ok config.profiles) × (scripts ≡ Ok config.scripts) × (store_dir ≡ Ok config.store_dir) × (groups ≡ Ok config.groups)
says_by (Ok all) (Ok scripts) (Ok dir) (Ok groups) config e = (cc, cc, cc, cc)
says_by (Ok all) (Ok scripts) (Ok dir) (Err path) config e = absurd (cc)
says_by (Ok all) (Ok scripts) (Err path) groups config e = absurd (cc)
says_by (Ok all) (Err path) store_dir groups config e = absurd (cc)
says_by (Err path) scripts store_dir groups config e = absurd (cc)

says : (top : Members) (config : MergedConfig) → config_in top ≡ Ok config → Says top config
says top config e =
    let parts = says_by (profiles_at top) (scripts_at top) (store_dir_at top) (groups_at top) config e in
    record { profiles = parts.0; scripts = parts.1; store_dir = parts.2; groups = parts.3 }

-- what stands under a key, by two readings that are the same
same_read : {A : Type 0} (one other : Reading A) (x y : A) → one ≡ Ok x → other ≡ Ok y → other ≡ one → y ≡ x
same_read one other x y e f same = let h : Ok y ≡ Ok x = sym f ∙ same ∙ e in cc

under_ok : {A : Type 0} (key : List ℕ) (reading : Reading A) (x : A) → under key reading ≡ Ok x → reading ≡ Ok x
under_ok key (Ok y) x e = e
under_ok key (Err path) x e = absurd (let h = e in cc)

-- the values of a profile of these names
same_values : (names : List Name) (one other : Members) (config second : MergedConfig) → AreLike names one other → Says one config → Says other second → (name : Name) → is_one_of names name ≡ true
    → values_of second.profiles name ≡ values_of config.profiles name
same_values names one other config second alike first next name known =
    let here = profiles_table (get_member (codes "profile") one) config.profiles (under_ok (codes "profile") (profiles_of (get_member (codes "profile") one)) config.profiles first.profiles) in
    let there = profiles_table (get_member (codes "profile") other) second.profiles (under_ok (codes "profile") (profiles_of (get_member (codes "profile") other)) second.profiles next.profiles) in
    value_named name (profiles_below other) second.profiles there.1
    ∙ ap read_value (alike.named name known)
    ∙ sym (value_named name (profiles_below one) config.profiles here.1)

-- ---- the law

module _ {F S : Type 0} (Is : IsFilterBy F) (IsSpec : IsSpecBy S) (IsTooDeep : List ℕ → Type 0) where
  all_read : (features : FeatureSet) (sources : List ConfigSource) (loaded : LoadedConfig F S) → IsLoadedAs Is IsSpec features built_in_members sources loaded
      → AllByRecursion (λ source. FileIsRead (file_of source)) (counting_sources sources)
  all_read features sources loaded it = sources_read Is IsSpec features (counting_sources sources) (kept_sources Is IsSpec features built_in_members sources it.kept)

  pub profile_isolation : ProfileIsolation Is IsSpec IsTooDeep
  profile_isolation features other_features root other_root sources others names config second agree loaded loaded_other =
      let counts = counted_agree names sources others agree in
      let read = all_read features sources config.loaded loaded.1 in
      let other_read = all_read other_features others second.loaded loaded_other.1 in
      let built = built_in_like names in
      let alike = raised_alike names (map file_with_setup (filter_map file_of (counting_sources sources))) (map file_with_setup (filter_map file_of (counting_sources others))) built_in_members built_in_members
      (all_moved_agree names (filter_map file_of (counting_sources sources)) (filter_map file_of (counting_sources others)) (files_agree names (counting_sources sources) (counting_sources others) counts))
      (moved_have (filter_map file_of (counting_sources sources)) (files_read (counting_sources sources) read)) (moved_have (filter_map file_of (counting_sources others)) (files_read (counting_sources others) other_read)) built in
      let here = says (merged_in built_in_members sources) (merged_of config.loaded) loaded.1.values in
      let there = says (merged_in built_in_members others) (merged_of second.loaded) loaded_other.1.values in
      let zipped = zip_reverse (λ one other. SourceAgrees names one other × FileIsRead (file_of one) × FileIsRead (file_of other)) (counting_sources sources) (counting_sources others)
      (zip_with (SourceAgrees names) (λ source. FileIsRead (file_of source)) (λ source. FileIsRead (file_of source)) (counting_sources sources) (counting_sources others) counts read other_read) in
      record {
        values = All-from_recursion (λ name. values_of (merged_of second.loaded).profiles name ≡ values_of (merged_of config.loaded).profiles name) names
            (each_value names (merged_in built_in_members sources) (merged_in built_in_members others) (merged_of config.loaded) (merged_of second.loaded) alike here there names (each_known names));
        rules = same_rules profile_of (λ it. it.overrides) placed_at (λ path profile it. refl) (λ it. it.overrides) (λ path config. refl) names (reverse (counting_sources sources)) (reverse (counting_sources others)) zipped;
        script_rules = same_rules script_profile_of (λ it. it.scripts) script_placed_at (λ path profile it. refl) (λ it. it.scripts) (λ path config. refl) names (reverse (counting_sources sources)) (reverse (counting_sources others)) zipped;
        groups = same_read (groups_at (merged_in built_in_members sources)) (groups_at (merged_in built_in_members others)) config.loaded.groups second.loaded.groups here.groups there.groups
            (ap (λ (found : Option Data). under (codes "test-groups") (groups_of found)) (alike.elsewhere (codes "test-groups") (apart (codes "test-groups") (codes "profile") refl)));
        scripts = same_read (scripts_at (merged_in built_in_members sources)) (scripts_at (merged_in built_in_members others)) config.loaded.scripts second.loaded.scripts here.scripts there.scripts
            (ap (λ (found : Option Data). under (codes "scripts") (scripts_of found)) (alike.elsewhere (codes "scripts") (apart (codes "scripts") (codes "profile") refl)));
        store_dir = same_read (store_dir_at (merged_in built_in_members sources)) (store_dir_at (merged_in built_in_members others)) config.loaded.store_dir second.loaded.store_dir here.store_dir there.store_dir
            (ap (λ (found : Option Data). under (codes "store") (store_dir_of found)) (alike.elsewhere (codes "store") (apart (codes "store") (codes "profile") refl)));
      }
    where
      built_in_like : (names : List Name) → AreLike names built_in_members built_in_members
      built_in_like names = record {
        elsewhere = λ key differs. refl;
        table = inr (profiles_below built_in_members, refl);
        other_table = inr (profiles_below built_in_members, refl);
        named = λ name known. refl;
      }

      each_value : (names : List Name) (one other : Members) (config second : MergedConfig) → AreLike names one other → Says one config → Says other second → (some : List Name)
          → AllByRecursion (λ name. is_one_of names name ≡ true) some → AllByRecursion (λ name. values_of second.profiles name ≡ values_of config.profiles name) some
      each_value names one other config second alike first next [] known = tt
      each_value names one other config second alike first next (name ∷ some) known =
          (same_values names one other config second alike first next name known.0, each_value names one other config second alike first next some known.1)

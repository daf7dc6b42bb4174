-- The files of some sources, one after another.
use Rattle.std.proofs.Common.{◌≡◌, ℕ, ◌+◌, ◌<◌, ◌≤◌, length, get_or, take, map, List, [], ◌∷◌, ◌++◌, Option, None, Some, flat_map, filter_map, refl, sym, ap, ◌∙◌, subst, append-nil, append_assoc, String, Global, string_bytes, Result, Ok, Err, MatchResult, IfOk}
use Rattle.std.proofs.lemmas.List.{map-append, take_all}
use Rattle.std.proofs.lemmas.List.Elements.{filter_map-append}
use Rattle.std.proofs.lemmas.Grind.{flat_map-append}
use Rattle.std.specs.BTreeMap.{BTreeMap}
use Rattle.std.specs.Borrow.{Bor}
use Rattle.std.specs.List.{AllZip, cons_option}
use Rattle.std.specs.Option.{option_map, option_to_list, unwrap_or}
use Rattle.toml.specs.Data.{Members}
use Rattle.toml.specs.View.{members_view, table_view, view}
use Rattle.toml.specs.declared.value.Value.{Value}
use Rattle.nextest_config_resolution_load.specs.Checks.{file_of, file_with_setup}
use Rattle.nextest_config_resolution_load.specs.Load.{IsFilterBy, IsSpecBy}
use Rattle.nextest_config_resolution_load.specs.Reading.{AreReadFiles, AreRulesOf}
use Rattle.nextest_config_resolution_load.specs.Warn.{AreKept, warnings_at, warnings_for}
use Rattle.nextest_config_resolution_load.specs.declared.placed_file.ReadFiles.{ReadFiles}
use Rattle.nextest_config_resolution_load.proofs.Passing.{taken_more}
use Rattle.nextest_config_resolution_sources.specs.declared.source.ConfigSource.{ConfigSource}
use Rattle.nextest_config_resolution_warnings.specs.declared.config_warning.ConfigWarning.{ConfigWarning}

-- a warning and the source of its file
abbrev Told : Type 0
Told = ConfigSource × ConfigWarning

abbrev pub now_of : List (Bor ConfigSource) → List ConfigSource
now_of sources = map (λ it. it.now) sources

listed_is : {A : Type 0} (found : Option A) → cons_option found [] ≡ option_to_list found
listed_is None = refl
listed_is (Some it) = refl

-- its file, if there is one
files_more : (done added : List Members) (all : List ConfigSource) (place : ℕ) (source : ConfigSource) (file : Option Members) → place < length all → source ≡ get_or all place source
    → file_of source ≡ file → done ≡ filter_map file_of (take place all) → added ≡ done ++ option_to_list file → added ≡ filter_map file_of (take (place + 1) all)
files_more done added all place source file within is here so adds =
    adds
    ∙ ap (λ (front : List Members). front ++ option_to_list file) so
    ∙ ap (λ (found : Option Members). filter_map file_of (take place all) ++ option_to_list found) (sym here)
    ∙ ap (λ (last : List Members). filter_map file_of (take place all) ++ last) (sym (listed_is (file_of source)))
    ∙ sym (filter_map-append file_of (take place all) (source ∷ []))
    ∙ ap (filter_map file_of) (sym (taken_more all place source within is))

-- and what is told of it
pub told_more : (told added : List Told) (all : List ConfigSource) (place : ℕ) (source : ConfigSource) (file : Option Members) → place < length all
    → source ≡ get_or all place source → file_of source ≡ file → told ≡ flat_map warnings_for (take place all) → added ≡ told ++ warnings_at source file
    → added ≡ flat_map warnings_for (take (place + 1) all)
told_more told added all place source file within is here so adds =
    adds
    ∙ ap (λ (front : List Told). front ++ warnings_at source file) so
    ∙ ap (λ (last : List Told). flat_map warnings_for (take place all) ++ last)
    (ap (warnings_at source) (sym here) ∙ sym (append-nil (warnings_for source)))
    ∙ sym (flat_map-append warnings_for (take place all) (source ∷ []))
    ∙ ap (flat_map warnings_for) (sym (taken_more all place source within is))

-- entries that are clones are the same members
same_entries : (from to : List (String Global × Value)) → AllZip (λ one other. (string_bytes other.0 ≡ string_bytes one.0) × (view other.1 ≡ view one.1)) from to → members_view to ≡ members_view from
same_entries [] [] all = refl
same_entries [] (other ∷ to) all = absurd all
same_entries (one ∷ from) [] all = absurd all
same_entries (one ∷ from) (other ∷ to) all = rw (all.0.0, all.0.1, same_entries from to all.1) refl

pub same_table : {E : Type 0} (Fails : E → Type 0) (from : BTreeMap (String Global) Value) (result : Result (BTreeMap (String Global) Value) E)
    → MatchResult result (λ to. AllZip (λ one other. (string_bytes other.0 ≡ string_bytes one.0) × (view other.1 ≡ view one.1)) from.entries to.entries) Fails
    → IfOk result (λ it. table_view it ≡ table_view from)
same_table Fails from (Ok to) all = same_entries from.entries to.entries all
same_table Fails from (Err error) all = tt

-- with its setup scripts where they stand now
pub moved_more : (done added : List Members) (all : List ConfigSource) (place : ℕ) (source : ConfigSource) (file : Option Members) → place < length all → source ≡ get_or all place source
    → file_of source ≡ file → done ≡ map file_with_setup (filter_map file_of (take place all)) → added ≡ done ++ map file_with_setup (option_to_list file)
    → added ≡ map file_with_setup (filter_map file_of (take (place + 1) all))
moved_more done added all place source file within is here so adds =
    let front = filter_map file_of (take place all) in
    let last = option_to_list file in
    adds
    ∙ ap (λ (them : List Members). them ++ map file_with_setup last) so
    ∙ sym (map-append file_with_setup front last)
    ∙ ap (map file_with_setup) (files_more front (front ++ last) all place source file within is here refl refl)

-- what is kept behind what was kept
kept_both : (old now new : Option (List Told)) (front last : List Told) → AreKept old now front → AreKept now new last → AreKept old new (front ++ last)
kept_both old now new front last first second = second ∙ ap (option_map (λ (told : List Told). told ++ last)) first ∙ behind old where
  behind : (it : Option (List Told)) → option_map (λ (told : List Told). told ++ last) (option_map (λ (told : List Told). told ++ front) it) ≡ option_map (λ (told : List Told). told ++ (front ++ last)) it
  behind None = refl
  behind (Some told) = ap Some (append_assoc told front last)

pub kept_none : (old : Option (List Told)) → AreKept old old []
kept_none None = refl
kept_none (Some told) = ap Some (sym (append-nil told))

pub kept_more : (old now new : Option (List Told)) (all : List ConfigSource) (place : ℕ) (source : ConfigSource) (file : Option Members) → place < length all
    → source ≡ get_or all place source → file_of source ≡ file → AreKept old now (flat_map warnings_for (take place all)) → AreKept now new (warnings_at source file)
    → AreKept old new (flat_map warnings_for (take (place + 1) all))
kept_more old now new all place source file within is here so adds =
    let front = flat_map warnings_for (take place all) in
    subst (AreKept old new) (told_more front (front ++ warnings_at source file) all place source file within is here refl refl)
    (kept_both old now new front (warnings_at source file) so adds)

-- all of them
pub files_read : {F S : Type 0} (Is : IsFilterBy F) (IsSpec : IsSpecBy S) (all : List ConfigSource) (place : ℕ) (it : ReadFiles F S) → length all ≤ place
    → map table_view it.files.items ≡ map file_with_setup (filter_map file_of (take place all))
    → AreRulesOf Is IsSpec (take place all) it.rules.items → AreReadFiles Is IsSpec all it
files_read Is IsSpec all place it over files rules =
    let whole = take_all place all over in
    record {
      files = files ∙ ap (λ (sources : List ConfigSource). map file_with_setup (filter_map file_of sources)) whole;
      rules = subst (λ (sources : List ConfigSource). AreRulesOf Is IsSpec sources it.rules.items) whole rules;
    }

pub kept_whole : (old new : Option (List Told)) (all : List ConfigSource) (place : ℕ) → length all ≤ place → AreKept old new (flat_map warnings_for (take place all))
    → AreKept old new (flat_map warnings_for all)
kept_whole old new all place over kept = subst (λ (sources : List ConfigSource). AreKept old new (flat_map warnings_for sources)) (take_all place all over) kept

-- all that was kept
pub told_all : (first : List Told) (new : Option (List Told)) (told otherwise further : List Told) → first ≡ [] → AreKept (Some first) new further → told ≡ unwrap_or new otherwise
    → told ≡ further
told_all first new told otherwise further none kept is =
    is ∙ ap (λ (it : Option (List Told)). unwrap_or it otherwise) kept ∙ ap (λ (it : List Told). it ++ further) none

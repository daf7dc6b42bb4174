-- What files come to, and that sources are loaded to one list of values, or refused for one reason.
use Rattle.std.proofs.Common.{◌≡◌, ℕ, List, [], ◌∷◌, ◌++◌, map, Ok, Err, sym, ap, ◌∙◌, subst, append_assoc}
use Rattle.std.specs.Prelude.{reverse}
use Rattle.std.proofs.lemmas.List.{reverse-append}
use Rattle.toml.specs.Data.{Data, table, Members}
use Rattle.nextest_config_elements_toml.specs.Reading.{Reading}
use Rattle.nextest_config_resolution_tree.proofs.Standings.{merged_by_over}
use Rattle.nextest_config_resolution_tree.specs.Merged.{IsMerged, merge_of_files}
use Rattle.nextest_config_resolution_load.specs.Checks.{MergedConfig, checks_of, tree_of_files}
use Rattle.nextest_config_resolution_load.specs.Laws.{MergedFiles, NoFault, OneLoad, OneReason}
use Rattle.nextest_config_resolution_load.specs.Load.{IsFilterBy, IsSpecBy, reason_of, merged_of}
use Rattle.nextest_config_resolution_load.proofs.Kept.{none_breaks, one_first}

-- files over others that are merged already
merged_behind : (files : List Members) (file : Data) (below : List Data) → IsMerged (reverse (map table files) ++ file ∷ below) (tree_of_files (merge_of_files file below) files)
merged_behind [] file below = merged_by_over file below
merged_behind (next ∷ files) file below =
    let one : List Data = table next ∷ [] in
    let same : reverse (map table files) ++ table next ∷ file ∷ below ≡ reverse (map table (next ∷ files)) ++ file ∷ below =
    sym (append_assoc (reverse (map table files)) one (file ∷ below)) ∙ ap (λ (all : List Data). all ++ file ∷ below) (sym (reverse-append one (map table files))) in
    subst (λ (all : List Data). IsMerged all (tree_of_files (merge_of_files file below) (next ∷ files))) same (merged_behind files (table next) (file ∷ below))

pub merged_files : MergedFiles
merged_files built_in files = merged_behind files (table built_in) []

-- what a reading gives
abbrev config_or : MergedConfig → Reading MergedConfig → MergedConfig
config_or otherwise (Ok config) = config
config_or otherwise (Err keys) = otherwise

pub one_load : {F S : Type 0} (Is : IsFilterBy F) (IsSpec : IsSpecBy S) (IsTooDeep : List ℕ → Type 0) → OneLoad Is IsSpec IsTooDeep
one_load Is IsSpec IsTooDeep features built_in sources one other a b = ap (config_or (merged_of one)) (sym a.values ∙ b.values)

pub none_refused : {F S : Type 0} (Is : IsFilterBy F) (IsSpec : IsSpecBy S) (IsTooDeep : List ℕ → Type 0) → NoFault Is IsSpec IsTooDeep
none_refused Is IsSpec IsTooDeep none_too_deep features built_in sources config fault loaded refused =
    none_breaks Is IsSpec IsTooDeep none_too_deep (checks_of features built_in sources) (reason_of fault) loaded.kept refused

pub one_reason : {F S : Type 0} (Is : IsFilterBy F) (IsSpec : IsSpecBy S) (IsTooDeep : List ℕ → Type 0) → OneReason Is IsSpec IsTooDeep
one_reason Is IsSpec IsTooDeep none_too_deep features built_in sources one other a b =
    one_first Is IsSpec IsTooDeep none_too_deep (checks_of features built_in sources) (reason_of one) (reason_of other) a b

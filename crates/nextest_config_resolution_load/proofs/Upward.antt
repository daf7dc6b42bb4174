-- What files come to, the lowest first and the highest first.
use Rattle.std.proofs.Common.{◌≡◌, List, [], ◌∷◌, ◌++◌, map, refl, sym, ap, ◌∙◌, append_assoc, String, Global, BTreeMap}
use Rattle.std.specs.Prelude.{reverse}
use Rattle.std.proofs.lemmas.List.{map-append, reverse-append}
use Rattle.toml.specs.Data.{table, Members}
use Rattle.toml.specs.View.{table_view}
use Rattle.toml.specs.declared.value.Value.{Value}
use Rattle.nextest_config_resolution_tree.specs.Gathered.{merged_tables}
use Rattle.nextest_config_resolution_tree.specs.Tree.{merge}
use Rattle.nextest_config_resolution_load.specs.Checks.{members_of, tree_of_files}

abbrev Table : Type 0
Table = BTreeMap (String Global) Value

-- files over others that are merged already
upward : (files : List Members) (file : Members) (below : List Members) → tree_of_files (merged_tables (file ∷ below)) files ≡ merged_tables (reverse files ++ file ∷ below)
upward [] file below = refl
upward (next ∷ files) file below =
    let one : List Members = next ∷ [] in
    let same : reverse files ++ next ∷ file ∷ below ≡ reverse (next ∷ files) ++ file ∷ below =
    sym (append_assoc (reverse files) one (file ∷ below)) ∙ ap (λ (all : List Members). all ++ file ∷ below) (sym (reverse-append one files)) in
    upward files next (file ∷ below) ∙ ap merged_tables same

-- they are a table
are_a_table : (files : List Members) (built_in : Members) → table (members_of (tree_of_files (table built_in) files)) ≡ tree_of_files (table built_in) files
are_a_table [] built_in = refl
are_a_table (file ∷ files) built_in = are_a_table files (merge file built_in)

from_above : (files : List Members) (built_in : Members) → merged_tables (reverse files ++ built_in ∷ []) ≡ table (members_of (tree_of_files (table built_in) files))
from_above files built_in = sym (are_a_table files built_in ∙ upward files built_in [])

-- as a call puts them one behind another
seen_back : (files : List Table) → map table_view (reverse files) ≡ reverse (map table_view files)
seen_back [] = refl
seen_back (file ∷ files) =
    ap (map table_view) (reverse-append (file ∷ []) files) ∙ map-append table_view (reverse files) (file ∷ []) ∙ ap (λ (front : List Members). front ++ table_view file ∷ []) (seen_back files)
    ∙ sym (reverse-append (table_view file ∷ []) (map table_view files))

pub put_last : (files reversed all : List Table) (copy : Table) (built_in : Members) → reversed ≡ reverse files → all ≡ reversed ++ copy ∷ [] → table_view copy ≡ built_in
    → merged_tables (map table_view all) ≡ table (members_of (tree_of_files (table built_in) (map table_view files)))
put_last files reversed all copy built_in back puts same =
    ap (λ (them : List Table). merged_tables (map table_view them)) (puts ∙ ap (λ (front : List Table). front ++ copy ∷ []) back)
    ∙ ap merged_tables (map-append table_view (reverse files) (copy ∷ []))
    ∙ rw (seen_back files, same) (from_above (map table_view files) built_in)

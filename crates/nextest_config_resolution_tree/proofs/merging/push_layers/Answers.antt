use Rattle.std.proofs.Common.{◌≡◌, List, [], ◌∷◌, ◌++◌, map, sym, ap, ◌∙◌, subst, append-nil, String, Global, BTreeMap}
use Rattle.std.specs.Prelude.{reverse}
use Rattle.toml.specs.Data.{Data}
use Rattle.toml.specs.View.{table_view, view}
use Rattle.toml.specs.declared.value.Value.{Value, Table as TableValue}
use Rattle.toml.proofs.Views.{view-Table}
use Rattle.nextest_config_elements_toml.specs.Reading.{Path}
use Rattle.nextest_config_resolution_tree.specs.Ends.{End, IsSorted, along, ends, ends_of}
use Rattle.nextest_config_resolution_tree.specs.Gathered.{leading, merged_layers, merged_tables}
use Rattle.nextest_config_resolution_tree.specs.Merged.{merge_of_files}
use Rattle.nextest_config_resolution_tree.specs.Waiting.{waiting_ends}
use Rattle.nextest_config_resolution_tree.proofs.Answered.{on_ok, then_ok}
use Rattle.nextest_config_resolution_tree.proofs.Gathered.{shown}
use Rattle.nextest_config_resolution_tree.proofs.Leaves.{ends_leaf, leaf_alone, leaf_sorted}
use Rattle.nextest_config_resolution_tree.proofs.Waiting.{ends_more, found_one, sorted_more}
use Rattle.nextest_config_resolution_tree.proofs.merging.push_layers.Goals as goal

-- the tables of layers, as they show
tables_shown : (highest : Value) (it : BTreeMap (String Global) Value) (lower : List Value) (tables : List (BTreeMap (String Global) Value)) → highest ≡ TableValue it
    → map table_view tables ≡ table_view it ∷ leading (map view lower) → merge_of_files (view highest) (map view lower) ≡ merged_tables (map table_view tables)
tables_shown highest it lower tables is all =
    ap (λ (value : Value). merge_of_files (view value) (map view lower)) is ∙ ap (λ (tree : Data). merge_of_files tree (map view lower)) (view-Table it)
    ∙ shown (table_view it) (map view lower) ∙ ap merged_tables (sym all)

pub returns-in_ok-tables-in-Table-clause-ends : goal.returns-in_ok-tables-in-Table-clause-ends
returns-in_ok-tables-in-Table-clause-ends c =
    let next = c.args.next in
    let waits = waiting_ends c.args.waiting.now.items in
    let found = ends_of 0 c.args.entries.now.items in
    let same = tables_shown next.layers.highest c.in-Table.table next.layers.lower.items c.in_ok-tables-in-Table.tables.items c.in-Table.is c.in_ok-tables-in-Table.ensures in
    then_ok c.push_tables.result
    (λ is. is ∙ ap (λ (tree : Data). (waits ++ map (along next.path) (ends tree)) ++ reverse found) (sym same)
    ∙ ap (λ (front : List End). front ++ reverse found) (sym (ends_more c.args.waiting.now.items next)))
    c.push_tables.ensures.ends

pub returns-in_ok-tables-in-Table-clause-sorted : goal.returns-in_ok-tables-in-Table-clause-sorted
returns-in_ok-tables-in-Table-clause-sorted c =
    let next = c.args.next in
    let same = tables_shown next.layers.highest c.in-Table.table next.layers.lower.items c.in_ok-tables-in-Table.tables.items c.in-Table.is c.in_ok-tables-in-Table.ensures in
    then_ok c.push_tables.result
    (λ leads sorted. sorted_more c.args.waiting.now.items next (leads sorted).0 (subst IsSorted (sym same) (leads sorted).1))
    c.push_tables.ensures.sorted

pub returns-in_default : goal.returns-in_default
returns-in_default c =
    let next = c.args.next in
    let highest = next.layers.highest in
    let never = c.in_default.not-Table in
    let path = next.path in
    let waits = waiting_ends c.args.waiting.now.items in
    let found = ends_of 0 c.args.entries.now.items in
    let leaf = leaf_alone highest (map view next.layers.lower.items) never in
    let here : map (along path) (ends (merged_layers next.layers)) ≡ (path, view highest) ∷ [] =
    ap (map (along path)) (ap ends leaf ∙ ends_leaf highest never) ∙ ap (λ (way : Path). (way, view highest) ∷ []) (append-nil path) in
    record {
      ends =
          then_ok c.push_entry.result
          (λ is. ap (λ (it : List End). waits ++ reverse it) is ∙ found_one waits found (path, view highest)
          ∙ ap (λ (these : List End). (waits ++ these) ++ reverse found) (sym here)
          ∙ ap (λ (front : List End). front ++ reverse found) (sym (ends_more c.args.waiting.now.items next)))
          c.push_entry.ensures;
      sorted = on_ok c.push_entry.result (λ sorted. sorted_more c.args.waiting.now.items next sorted (subst IsSorted (sym leaf) (leaf_sorted highest never)));
    }

use Rattle.std.proofs.Common.{◌≡◌, List, [], ◌∷◌, ◌++◌, length, map, sym, ap, ◌∙◌, subst, append-nil}
use Rattle.std.specs.Prelude.{reverse}
use Rattle.std.proofs.lemmas.List.{nil_from_length}
use Rattle.toml.specs.Data.{Data, table, no_members}
use Rattle.toml.specs.View.{members_view, table_view, view}
use Rattle.toml.specs.declared.value.Value.{Table as TableValue}
use Rattle.toml.proofs.Views.{view-Table}
use Rattle.nextest_config_elements_toml.specs.Reading.{Path}
use Rattle.nextest_config_resolution_tree.proofs.Tables.{Pair}
use Rattle.nextest_config_resolution_tree.specs.Ends.{End, IsSorted, along, ends, ends_of, members_ends}
use Rattle.nextest_config_resolution_tree.specs.Gathered.{members_of, merged_tables}
use Rattle.nextest_config_resolution_tree.specs.Waiting.{waiting_ends}
use Rattle.nextest_config_resolution_tree.proofs.Answered.{on_ok, then_ok}
use Rattle.nextest_config_resolution_tree.proofs.Ends.{table_ends}
use Rattle.nextest_config_resolution_tree.proofs.Gathered.{Entry}
use Rattle.nextest_config_resolution_tree.proofs.Merged.{tables_are}
use Rattle.nextest_config_resolution_tree.proofs.Waiting.{found_one}
use Rattle.nextest_config_resolution_tree.proofs.merging.push_tables.Goals as goal

pub returns-then-len-eq0-clause-ends : goal.returns-then-len-eq0-clause-ends
returns-then-len-eq0-clause-ends c =
    let entries = c.in_ok-members.members.entries in
    let path = c.args.path in
    let waits = waiting_ends c.args.waiting.now.items in
    let found = ends_of 0 c.args.entries.now.items in
    let none : entries ≡ [] = nil_from_length entries (sym c.len.ensures.len ∙ c.if-len-eq0.true) in
    let all = tables_are c.args.tables.items entries c.len.ensures.ordered c.in_ok-members.ensures.rise c.in_ok-members.ensures.gives ∙ ap (λ (it : List Entry). table (members_of it)) none in
    let here : map (along path) (ends (merged_tables (map table_view c.args.tables.items))) ≡ (path, table no_members) ∷ [] =
    ap (λ (tree : Data). map (along path) (ends tree)) all ∙ ap (λ (way : Path). (way, table no_members) ∷ []) (append-nil path) in
    let empty : view (TableValue c.new.result) ≡ table no_members = view-Table c.new.result ∙ ap (λ (it : List Pair). table (members_view it)) c.new.ensures.empty in
    then_ok c.push_entry.result
    (λ is. ap (λ (it : List End). waits ++ reverse it) is ∙ found_one waits found (path, view (TableValue c.new.result))
    ∙ ap (λ (it : Data). (waits ++ (path, it) ∷ []) ++ reverse found) empty
    ∙ ap (λ (these : List End). (waits ++ these) ++ reverse found) (sym here))
    c.push_entry.ensures

pub returns-then-len-eq0-clause-sorted : goal.returns-then-len-eq0-clause-sorted
returns-then-len-eq0-clause-sorted c =
    let entries = c.in_ok-members.members.entries in
    let none : entries ≡ [] = nil_from_length entries (sym c.len.ensures.len ∙ c.if-len-eq0.true) in
    let all = tables_are c.args.tables.items entries c.len.ensures.ordered c.in_ok-members.ensures.rise c.in_ok-members.ensures.gives ∙ ap (λ (it : List Entry). table (members_of it)) none in
    on_ok c.push_entry.result (λ sorted. (sorted, subst IsSorted (sym all) tt))

pub returns-clause-ends : goal.returns-clause-ends
returns-clause-ends c =
    let entries = c.in_ok-members.members.entries in
    let waits = waiting_ends c.args.waiting.now.items in
    let all = tables_are c.args.tables.items entries c.len.ensures.ordered c.in_ok-members.ensures.rise c.in_ok-members.ensures.gives in
    let some : length entries ≡ 0 → ⊥ = λ none. c.if-len-eq0.false (c.len.ensures.len ∙ none) in
    then_ok c.push_members.result
    (λ is. ap (λ (front : List End). front ++ reverse (ends_of 0 c.args.entries.now.items))
    (is ∙ ap (λ (way : Path). waits ++ map (along way) (members_ends (members_of entries))) c.in_ok-path.ensures
    ∙ ap (λ (these : List End). waits ++ map (along c.args.path) these) (sym (ap ends all ∙ table_ends entries some))))
    c.push_members.ensures.ends

pub returns-clause-sorted : goal.returns-clause-sorted
returns-clause-sorted c =
    let all = tables_are c.args.tables.items c.in_ok-members.members.entries c.len.ensures.ordered c.in_ok-members.ensures.rise c.in_ok-members.ensures.gives in
    then_ok c.push_members.result (λ leads sorted. ((leads sorted).0, subst IsSorted (sym all) (leads sorted).1)) c.push_members.ensures.sorted

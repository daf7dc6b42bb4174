use Rattle.std.proofs.Common.{List, ◌++◌, map, sym, ap, ◌∙◌, append-nil}
use Rattle.std.specs.Prelude.{reverse}
use Rattle.std.proofs.lemmas.List.{nil_from_length}
use Rattle.toml.specs.View.{table_view}
use Rattle.nextest_config_elements_toml.specs.Reading.{Path}
use Rattle.nextest_config_resolution_tree.specs.declared.entry.Entry.{Entry}
use Rattle.nextest_config_resolution_tree.specs.declared.merging.Waiting.{Waiting}
use Rattle.nextest_config_resolution_tree.specs.Ends.{along, ends, ends_of}
use Rattle.nextest_config_resolution_tree.specs.Gathered.{merged_tables}
use Rattle.nextest_config_resolution_tree.specs.Waiting.{waiting_ends}
use Rattle.nextest_config_resolution_tree.proofs.Ends.{along_none}
use Rattle.nextest_config_resolution_tree.proofs.Waiting.{ends_reversed}
use Rattle.nextest_config_resolution_tree.proofs.merging.entries_of.Goals as goal

pub loop-init : goal.loop-init
loop-init c =
    let all = ends (merged_tables (map table_view c.args.tables.items)) in (
      c.in_ok-push_tables.ensures.ends
          ∙ ap (λ (waits : List Waiting). (waiting_ends waits ++ map (along c.in_ok-root.root) all) ++ reverse (ends_of 0 c.new-entries.result.items)) c.new-waiting.ensures.items
          ∙ ap (λ (found : List Entry). map (along c.in_ok-root.root) all ++ reverse (ends_of 0 found)) c.new-entries.ensures.items
          ∙ append-nil (map (along c.in_ok-root.root) all)
          ∙ ap (λ (way : Path). map (along way) all) c.in_ok-root.ensures ∙ along_none all,
      λ sorted. (c.in_ok-push_tables.ensures.sorted sorted).1,
    )

pub returns-in-None-clause-ends : goal.returns-in-None-clause-ends
returns-in-None-clause-ends c =
    let none = nil_from_length c.loop.waiting.items (sym c.loop.waiting.ok.0 ∙ c.in-None.ensures.cases.0) in
    ap (ends_of 0) c.reverse.ensures.items ∙ ends_reversed c.loop.entries.items
    ∙ ap (λ (waits : List Waiting). waiting_ends waits ++ reverse (ends_of 0 c.loop.entries.items)) (sym none) ∙ c.loop.invariant.0

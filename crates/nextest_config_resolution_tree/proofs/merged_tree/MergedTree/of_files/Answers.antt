use Rattle.std.proofs.Common.{◌≡◌, true, List, map, subst, sym}
use Rattle.toml.specs.View.{table_view}
use Rattle.nextest_config_resolution_tree.specs.Ends.{End, rises}
use Rattle.nextest_config_resolution_tree.specs.Gathered.{merged_tables}
use Rattle.nextest_config_resolution_tree.proofs.Ends.{rises_tree}
use Rattle.nextest_config_resolution_tree.proofs.merged_tree.MergedTree.of_files.Goals as goal

pub invariant_of-result : goal.invariant_of-result
invariant_of-result c = record {
  rises = subst (λ (it : List End). rises it ≡ true) (sym c.in_ok-entries_of.ensures.ends) (rises_tree (merged_tables (map table_view c.args.files.items)) c.in_ok-entries_of.ensures.sorted);
}

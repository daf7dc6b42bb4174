use Rattle.std.proofs.Common.{◌≡◌, map}
use Rattle.toml.specs.View.{table_view}
use Rattle.nextest_config_resolution_tree.specs.Ends.{IsSorted, ends}
use Rattle.nextest_config_resolution_tree.specs.Gathered.{merged_tables}
use Rattle.nextest_config_resolution_tree.specs.Waiting.{AllSorted, ends_left}
use Rattle.nextest_config_resolution_tree.proofs.merging.entries_of.Given as goal

-- the ends that are left, and those that were found, are all, and where what waits is sorted, so is the whole
abbrev pub invariant-loop : goal.invariant-loop
invariant-loop l =
    (ends_left l.waiting.items l.entries.items ≡ ends (merged_tables (map table_view l.fn.tables.items)))
    × (AllSorted l.waiting.items → IsSorted (merged_tables (map table_view l.fn.tables.items)))

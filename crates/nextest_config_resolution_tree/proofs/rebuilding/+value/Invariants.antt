use Rattle.std.proofs.Common.{◌≡◌, ◌+◌, ◌*◌, ◌≤◌, length}
use Rattle.toml.specs.Data.{Members}
use Rattle.toml.specs.View.{table_view}
use Rattle.nextest_config_resolution_tree.specs.Ends.{AreSorted, members_ends}
use Rattle.nextest_config_resolution_tree.specs.RunOf.{run_of}
use Rattle.nextest_config_resolution_tree.proofs.Rebuilt.{Left, weight}
use Rattle.nextest_config_resolution_tree.proofs.rebuilding.+value.Given as goal

-- the table so far, what is left of it, and that this is no longer
abbrev pub invariant-table_in-loop-key : goal.invariant-table_in-loop-key
invariant-table_in-loop-key l =
    (weight (run_of l.left) ≤ weight (run_of l.fn.run))
    × ((members : Members) → AreSorted members → run_of l.fn.run ≡ members_ends members → Left members (table_view l.table) (run_of l.left))

abbrev pub decreases-table_in-loop-key : goal.decreases-table_in-loop-key
decreases-table_in-loop-key l = length (run_of l.left)

abbrev pub decreases-table_in : goal.decreases-table_in
decreases-table_in a = 3 * weight (run_of a.run) + 1

abbrev pub decreases-value_in : goal.decreases-value_in
decreases-value_in a = 3 * weight (run_of a.run) + 2

abbrev pub decreases-add_member : goal.decreases-add_member
decreases-add_member a = 3 * weight (run_of a.run) + 3

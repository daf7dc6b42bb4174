use Rattle.std.proofs.Common.{Some, ap, ◌∙◌}
use Rattle.toml.specs.Data.{table}
use Rattle.nextest_config_resolution_tree.specs.Tree.{members_at}
use Rattle.nextest_config_resolution_tree.proofs.merged_tree.MergedTree.to_table.Goals as goal

pub returns : goal.returns
returns c = λ members is.
    c.table_at.ensures ∙ ap members_at (c.in_ok-all.ensures (Some (table members)) is.sorted (c.run.ensures ∙ is.ends))

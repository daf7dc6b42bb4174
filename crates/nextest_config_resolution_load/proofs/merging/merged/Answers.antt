use Rattle.std.proofs.Common.{IfOk, subst}
use Rattle.toml.specs.Data.{Data}
use Rattle.toml.specs.View.{table_view}
use Rattle.nextest_config_resolution_tree.specs.Ends.{IsListOf}
use Rattle.nextest_config_resolution_tree.specs.RunOf.{list_of}
use Rattle.nextest_config_resolution_load.proofs.Upward.{put_last}
use Rattle.nextest_config_resolution_load.proofs.merging.merged.Goals as goal

pub returns : goal.returns
returns c =
    subst (λ (tree : Data). IfOk c.of_files.result (λ it. IsListOf (list_of it) tree))
    (put_last c.args.files.items c.reverse.new.self.items c.push.new.self.items _ (table_view c.args.built_in.now) c.reverse.ensures.items c.in_ok-push.ensures.items c.in_ok-copied.ensures)
    c.of_files.ensures

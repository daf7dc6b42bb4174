use Rattle.std.proofs.Common.{ap, ◌∙◌}
use Rattle.nextest_config_elements_toml.specs.Paths.{texts}
use Rattle.nextest_config_resolution_tree.specs.Runs.{below_path}
use Rattle.nextest_config_resolution_tree.specs.Tree.{get_path}
use Rattle.nextest_config_resolution_tree.proofs.AtPath.{read_at_path, sorted_path}
use Rattle.nextest_config_resolution_tree.proofs.merged_tree.MergedTree.value_at.Goals as goal

pub returns : goal.returns
returns c = λ tree is.
    let path = texts c.args.path.now in
    c.value.ensures (get_path path tree) (sorted_path path tree is.sorted)
    (c.at.ensures ∙ ap (below_path path) (c.run.ensures ∙ is.ends) ∙ read_at_path tree path is.sorted)

use Rattle.nextest_config_resolution_tree.proofs.AtPath.{read_at_path}
use Rattle.nextest_config_resolution_tree.proofs.laws.read_at_path.Goals as goal

pub returns : goal.returns
returns c = read_at_path

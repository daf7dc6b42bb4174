use Rattle.nextest_config_resolution_tree.proofs.Standings.{merged_by_over}
use Rattle.nextest_config_resolution_tree.proofs.laws.merged_by_over.Goals as goal

pub returns : goal.returns
returns c = merged_by_over

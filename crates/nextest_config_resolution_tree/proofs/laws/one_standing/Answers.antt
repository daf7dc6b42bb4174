use Rattle.nextest_config_resolution_tree.proofs.Standings.{one_standing}
use Rattle.nextest_config_resolution_tree.proofs.laws.one_standing.Goals as goal

pub returns : goal.returns
returns c = one_standing

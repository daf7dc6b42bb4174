use Rattle.std.proofs.Common.{length}
use Rattle.nextest_config_resolution_tree.proofs.run.Run.+at.Given as goal

abbrev pub decreases-at : goal.decreases-at
decreases-at a = length a.path.now

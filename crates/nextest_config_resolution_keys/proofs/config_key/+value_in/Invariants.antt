use Rattle.std.proofs.Common.{length}
use Rattle.nextest_config_resolution_keys.proofs.config_key.+value_in.Given as goal

abbrev pub decreases-value_in : goal.decreases-value_in
decreases-value_in g l = length l.path.now

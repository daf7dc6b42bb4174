use Rattle.std.proofs.Common.{length}
use Rattle.nextest_config_resolution_keys.proofs.known.+known_by.Given as goal

abbrev pub decreases-known_by : goal.decreases-known_by
decreases-known_by l = length l.path.now

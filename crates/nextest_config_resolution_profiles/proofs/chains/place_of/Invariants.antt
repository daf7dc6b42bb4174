use Rattle.nextest_config_resolution_profiles.proofs.Names.{Apart}
use Rattle.nextest_config_resolution_profiles.proofs.chains.place_of.Given as goal

abbrev pub invariant-loop-place : goal.invariant-loop-place
invariant-loop-place l = Apart l.profiles l.name l.place

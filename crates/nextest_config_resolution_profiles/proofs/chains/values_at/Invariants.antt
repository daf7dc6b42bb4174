use Rattle.std.proofs.Common.{map, take}
use Rattle.nextest_config_resolution_load.specs.Load.{named_of}
use Rattle.nextest_config_resolution_settings.specs.Nearest.{lent_layers}
use Rattle.nextest_config_resolution_profiles.specs.Chains.{AreAt}
use Rattle.nextest_config_resolution_profiles.proofs.chains.values_at.Given as goal

abbrev pub invariant-loop-place : goal.invariant-loop-place
invariant-loop-place l = AreAt (map named_of l.profiles) (take l.place-index l.places) (lent_layers l.values.items)

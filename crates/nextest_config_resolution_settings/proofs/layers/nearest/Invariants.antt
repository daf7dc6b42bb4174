use Rattle.std.proofs.Common.{take}
use Rattle.nextest_config_resolution_settings.specs.Nearest.{SetsNone, lent_layers}
use Rattle.nextest_config_resolution_settings.proofs.layers.nearest.Given as goal

abbrev pub invariant-loop-place : goal.invariant-loop-place
invariant-loop-place g l = SetsNone g.L.Sets.value (take l.place (lent_layers l.layers))

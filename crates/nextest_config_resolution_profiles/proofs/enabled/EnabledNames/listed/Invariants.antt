use Rattle.std.proofs.Common.{◌≡◌}
use Rattle.nextest_config_resolution_profiles.proofs.enabled.EnabledNames.listed.Given as goal
use Rattle.nextest_config_resolution_settings.specs.Nearest.{lent_layers}

-- the names so far
abbrev pub invariant-loop-name : goal.invariant-loop-name
invariant-loop-name l = l.listed ≡ lent_layers l.yielded

use Rattle.std.proofs.Common.{◌≡◌, map}
use Rattle.std.specs.List.{filter_map}
use Rattle.nextest_config_resolution_profiles.specs.Enabled.{defined_as, seen_script}
use Rattle.nextest_config_resolution_profiles.proofs.enabled.EnabledNames.defined.Given as goal
use Rattle.nextest_config_resolution_settings.specs.Nearest.{lent_layers}

-- the scripts of the names so far
abbrev pub invariant-loop-id : goal.invariant-loop-id
invariant-loop-id l = map seen_script l.found.items ≡ filter_map (defined_as l.scripts) (lent_layers l.yielded)

use Rattle.std.proofs.Common.{◌≡◌, map}
use Rattle.nextest_config_resolution_load.specs.Rules.{placed_at}
use Rattle.nextest_config_resolution_load.proofs.placing.placed_overrides.Given as goal

-- those so far
abbrev pub invariant-loop-index : goal.invariant-loop-index
invariant-loop-index l = l.rules.items ≡ map (placed_at l.path l.profile) l.yielded

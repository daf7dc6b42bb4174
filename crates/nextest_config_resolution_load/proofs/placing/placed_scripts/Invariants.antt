use Rattle.std.proofs.Common.{◌≡◌, map}
use Rattle.nextest_config_resolution_load.specs.Rules.{script_placed_at}
use Rattle.nextest_config_resolution_load.proofs.placing.placed_scripts.Given as goal

-- those so far
abbrev pub invariant-loop-index : goal.invariant-loop-index
invariant-loop-index l = l.rules.items ≡ map (script_placed_at l.path l.profile) l.yielded

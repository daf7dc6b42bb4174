use Rattle.std.proofs.Common.{◌≡◌, map, take}
use Rattle.nextest_config_resolution_profiles.specs.ChainRules.{seen_rules}
use Rattle.nextest_config_resolution_profiles.specs.Held.{placed_of}
use Rattle.nextest_config_resolution_profiles.specs.HeldRules.{rules_at}
use Rattle.nextest_config_resolution_profiles.proofs.held_rules.picked_by.Given as goal
use Rattle.nextest_config_resolution_settings.specs.Nearest.{lent_layers}

-- what the rules so far say that are picked
abbrev pub invariant-loop-place : goal.invariant-loop-place
invariant-loop-place g l = lent_layers l.held.items ≡ map placed_of (rules_at l.row (seen_rules (take l.place l.rules)))

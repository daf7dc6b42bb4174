use Rattle.std.proofs.Common.{take}
use Rattle.nextest_config_resolution_profiles.specs.ChainRules.{seen_rules}
use Rattle.nextest_config_resolution_profiles.specs.Finding.{FindsHeld}
use Rattle.nextest_config_resolution_profiles.specs.Held.{Holds}
use Rattle.nextest_config_resolution_profiles.proofs.held.held_on.Given as goal
use Rattle.nextest_config_resolution_settings.specs.Nearest.{lent_layers}
use Rattle.nextest_filtering_filters.specs.Query.{test_of}

-- the rules so far that hold
abbrev pub invariant-loop-rule : goal.invariant-loop-rule
invariant-loop-rule g l = FindsHeld (Holds g.F.Filters.on_test l.default (test_of l.query)) (seen_rules (take l.rule-index l.rules)) (lent_layers l.held.items)

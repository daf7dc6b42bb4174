use Rattle.std.proofs.Common.{map, take}
use Rattle.nextest_config_resolution_profiles.specs.ChainRules.{seen_rules}
use Rattle.nextest_config_resolution_profiles.specs.HeldRules.{AreColumns}
use Rattle.nextest_config_resolution_profiles.proofs.held_rules.columns_of.Given as goal
use Rattle.nextest_config_resolution_settings.specs.Nearest.{lent_layers}
use Rattle.nextest_filtering_filters.specs.Query.{binary_of}

-- the columns of the rules so far
abbrev pub invariant-loop-rule : goal.invariant-loop-rule
invariant-loop-rule g l =
    AreColumns g.F.Filters.on_test l.default (binary_of l.binary) (lent_layers l.names) (seen_rules (take l.rule-index l.rules)) (map (λ column. column.items) l.columns.items)

use Rattle.std.proofs.Common.{take}
use Rattle.nextest_config_resolution_profiles.specs.ChainRules.{seen_rules}
use Rattle.nextest_config_resolution_profiles.specs.Enabled.{HoldsAsked}
use Rattle.nextest_config_resolution_profiles.specs.HeldRules.{IsRowBy}
use Rattle.nextest_config_resolution_profiles.proofs.enabled.asked_of.Given as goal

-- the rules so far are told of
abbrev pub invariant-loop-rule : goal.invariant-loop-rule
invariant-loop-rule g l = IsRowBy (HoldsAsked g.F.Filters.on_test g.F.Filters.on_binary l.default l.asked) (seen_rules (take l.rule-index l.rules)) l.row.items

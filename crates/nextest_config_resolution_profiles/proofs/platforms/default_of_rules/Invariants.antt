use Rattle.nextest_config_resolution_profiles.specs.ChainRules.{seen_rule}
use Rattle.nextest_config_resolution_profiles.specs.Platforms.{ForTarget, default_set}
use Rattle.nextest_config_resolution_profiles.proofs.Leasts.{NoneYet}
use Rattle.nextest_config_resolution_profiles.proofs.platforms.default_of_rules.Given as goal

-- none of the rules so far holds for the target and sets one
abbrev pub invariant-loop-rule : goal.invariant-loop-rule
invariant-loop-rule g l = NoneYet ForTarget default_set seen_rule l.rules l.rule-index

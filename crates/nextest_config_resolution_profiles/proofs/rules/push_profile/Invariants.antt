use Rattle.std.proofs.Common.{◌≡◌, ◌++◌, take}
use Rattle.nextest_config_resolution_settings.specs.Rules.{rules_of_profile}
use Rattle.nextest_config_resolution_profiles.specs.ChainRules.{rules_in}
use Rattle.nextest_config_resolution_profiles.specs.Early.{in_profile}
use Rattle.nextest_config_resolution_profiles.proofs.rules.push_profile.Given as goal

-- the profile's rules so far
abbrev pub invariant-loop-rule : goal.invariant-loop-rule
invariant-loop-rule g l = rules_in l.rules.items ≡ rules_in l.fn.rules.items ++ rules_of_profile (in_profile g.P.InProfile.profile_of) (take l.rule-index l.all) l.name

use Rattle.std.proofs.Common.{◌≡◌, map, take}
use Rattle.nextest_config_resolution_inheritance.specs.Inheritance.{names_at}
use Rattle.nextest_config_resolution_load.specs.Checks.{parents_of}
use Rattle.nextest_config_resolution_load.specs.Load.{named_of}
use Rattle.nextest_config_resolution_settings.specs.Rules.{rules_of}
use Rattle.nextest_config_resolution_profiles.specs.ChainRules.{rules_in}
use Rattle.nextest_config_resolution_profiles.specs.Early.{in_profile}
use Rattle.nextest_config_resolution_profiles.proofs.rules.rules_at.Given as goal

-- the rules of the profiles so far
abbrev pub invariant-loop-place : goal.invariant-loop-place
invariant-loop-place g l = rules_in l.rules.items ≡ rules_of (in_profile g.P.InProfile.profile_of) l.all (names_at (parents_of (map named_of l.profiles)) (take l.place-index l.places))

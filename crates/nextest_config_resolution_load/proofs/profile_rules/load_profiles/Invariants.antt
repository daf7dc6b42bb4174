use Rattle.std.proofs.Common.{◌≡◌, ◌++◌}
use Rattle.std.specs.List.{AllByRecursion, flat_map}
use Rattle.nextest_config_resolution_load.specs.Load.{IsKept}
use Rattle.nextest_config_resolution_load.specs.Reading.{AreReadInFile, rules_of_profiles}
use Rattle.nextest_config_resolution_load.specs.Rules.{profile_checks}
use Rattle.nextest_config_resolution_load.proofs.profile_rules.load_profiles.Given as goal

-- what was loaded of those so far
abbrev pub invariant-loop-profile : goal.invariant-loop-profile
invariant-loop-profile g l = record {
  ahead : l.fn.profiles ≡ l.yielded ++ l.profile-iterator.rest.items;
  kept : AllByRecursion (IsKept (g.R.Languages.is_filter l.cx) g.R.Languages.is_spec) (flat_map (profile_checks l.path) l.yielded);
  read : AreReadInFile (g.R.Languages.is_filter l.cx) g.R.Languages.is_spec (rules_of_profiles l.path l.yielded) l.rules;
}

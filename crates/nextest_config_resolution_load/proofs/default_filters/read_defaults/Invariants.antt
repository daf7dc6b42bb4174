use Rattle.std.proofs.Common.{map, take}
use Rattle.std.specs.List.{AllByRecursion, flat_map}
use Rattle.nextest_config_resolution_load.specs.Checks.{default_check}
use Rattle.nextest_config_resolution_load.specs.Load.{IsKept, named_of}
use Rattle.nextest_config_resolution_load.specs.Reading.{AreReadDefaults}
use Rattle.nextest_config_resolution_keys.specs.File.{default_filter_in}
use Rattle.nextest_config_resolution_load.proofs.default_filters.read_defaults.Given as goal

-- what was read so far
abbrev pub invariant-loop-profile : goal.invariant-loop-profile
invariant-loop-profile g l = record {
  kept : AllByRecursion (IsKept (g.R.Languages.is_filter l.cx) g.R.Languages.is_spec) (flat_map (λ it. default_check it.0 (default_filter_in it.1)) (take l.profile-index (map named_of l.profiles)));
  read : AreReadDefaults (g.R.Languages.is_filter l.cx) (take l.profile-index (map named_of l.profiles)) l.found;
}

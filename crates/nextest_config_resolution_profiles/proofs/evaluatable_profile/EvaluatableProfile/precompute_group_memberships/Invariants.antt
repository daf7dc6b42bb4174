use Rattle.std.proofs.Common.{map, take}
use Rattle.nextest_config_resolution_profiles.specs.Memberships.{AreNames, name_in}
use Rattle.nextest_config_resolution_profiles.proofs.evaluatable_profile.EvaluatableProfile.precompute_group_memberships.Given as goal
use Rattle.nextest_filtering_filters.specs.Query.{test_of}

-- the groups of the tests so far
abbrev pub invariant-loop-test : goal.invariant-loop-test
invariant-loop-test g l =
    AreNames g.F.Filters.on_test l.self (map test_of (take l.test-index l.tests)) (name_in l.found)

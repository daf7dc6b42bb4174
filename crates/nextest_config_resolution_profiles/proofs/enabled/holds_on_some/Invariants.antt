use Rattle.std.proofs.Common.{map, take}
use Rattle.nextest_config_resolution_profiles.specs.ChainRules.{seen_rule}
use Rattle.nextest_config_resolution_profiles.specs.Enabled.{HoldsOnSome}
use Rattle.nextest_config_resolution_profiles.proofs.enabled.holds_on_some.Given as goal
use Rattle.nextest_filtering_filters.specs.Query.{test_of}

-- on none of the tests so far
abbrev pub invariant-loop-test : goal.invariant-loop-test
invariant-loop-test g l = ¬ HoldsOnSome g.F.Filters.on_test l.default (map test_of (take l.test-index l.tests)) (seen_rule l.rule)

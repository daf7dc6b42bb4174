use Rattle.nextest_config_resolution_profiles.proofs.Keeping.{next_kept}
use Rattle.nextest_config_resolution_profiles.specs.Memberships.{name_in}
use Rattle.nextest_config_resolution_profiles.proofs.evaluatable_profile.EvaluatableProfile.precompute_group_memberships.Goals as goal
use Rattle.nextest_config_resolution_settings.specs.TestSettings.{group_of}

pub loop-test-preserved : goal.loop-test-preserved
loop-test-preserved g c =
    next_kept g.F.Filters.on_test c.args.self.now c.args.tests.now c.loop-test.test-index _
    (group_of c.in_ok-group.group) (name_in c.loop-test.found) (name_in c.keep.new.groups)
    c.loop-test-test.true c.loop-test.invariant c.in_ok-group.ensures c.in_ok-keep.ensures

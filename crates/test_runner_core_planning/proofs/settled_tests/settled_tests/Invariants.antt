use Rattle.std.proofs.Common.{◌≡◌, map}
use Rattle.nextest_config_resolution_profiles.specs.Enabled.{HasEnabled}
use Rattle.nextest_filtering_compiling.specs.Filtersets.{HasOnTest}
use Rattle.nextest_filtering_filters.specs.Query.{Test}
use Rattle.test_runner_core_listing.specs.Selected.{tests_in}
use Rattle.test_runner_core_plan.specs.declared.plan_settings.PlanSettings.{PlanSettings}
use Rattle.test_runner_core_planning.specs.Plan.{with_settings}
use Rattle.test_runner_core_planning.specs.Settled.{tests_of_all}
use Rattle.test_runner_core_planning.specs.Tests.{AreShared, HasForEach}
use Rattle.test_runner_core_planning.proofs.settled_tests.settled_tests.Given as goal

abbrev pub invariant-loop-of_binary : goal.invariant-loop-of_binary
invariant-loop-of_binary l = record {
  shared : AreShared l.profile l.mode l.shared;
  tests : (of_test : Test → PlanSettings) → HasForEach l.profile l.mode of_test → tests_of_all l.binaries.items ≡ map (with_settings of_test) (tests_in l.yielded);
  scripts : HasEnabled HasOnTest l.profile (tests_in l.yielded) l.names;
}

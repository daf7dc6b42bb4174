use Rattle.std.proofs.Common.{List, map, ap, ◌∙◌, rules, sym, subst}
use Rattle.std.proofs.lemmas.Iterator.Adapters.{YieldsList-from_vec}
use Rattle.std.proofs.lemmas.Iterator.Consumers.{YieldsList-end}
use Rattle.std.proofs.lemmas.List.{map-id}
use Rattle.std.specs.List.Sorted.{IsPermutation}
use Rattle.nextest_config_resolution_profiles.specs.Enabled.{AreNamesOf, HasEnabled, IsEnabled}
use Rattle.nextest_config_resolution_profiles.proofs.Enabling.{same_names}
use Rattle.nextest_filtering_compiling.specs.Filtersets.{HasOnTest}
use Rattle.nextest_filtering_filters.specs.Query.{Test}
use Rattle.test_runner_core_listing.specs.Selected.{tests_in}
use Rattle.test_runner_core_listing.specs.declared.selection.SelectedTests.{SelectedTests}
use Rattle.test_runner_core_plan.specs.declared.plan.PlanTest.{PlanTest}
use Rattle.test_runner_core_planning.specs.Plan.{with_settings}
use Rattle.test_runner_core_planning.specs.Settled.{tests_of_all}
use Rattle.test_runner_core_planning.proofs.Settled.{settled_more, tests_more}
use Rattle.test_runner_core_planning.proofs.settled_tests.settled_tests.Goals as goal

pub loop-of_binary-preserved : goal.loop-of_binary-preserved
loop-of_binary-preserved c =
    let profile = c.args.profile.now in
    let so_far = c.loop-of_binary.yielded in
    let one = c.in-Some.of_binary in
    record {
      shared = c.in_ok-settled_binary.ensures.shared;
      tests = λ of_test has.
          settled_more of_test so_far one c.loop-of_binary.binaries.items _ c.in_ok-settled_binary.field-0 (c.loop-of_binary.invariant.tests of_test has) c.in_ok-push.ensures.items
          (c.in_ok-settled_binary.ensures.tests of_test has);
      scripts = subst (λ (tests : List Test). HasEnabled HasOnTest profile tests c.settled_binary.new.scripts) (sym (tests_more so_far one))
          (c.in_ok-settled_binary.ensures.scripts (tests_in so_far) c.loop-of_binary.invariant.scripts);
    }

pub returns-clause-tests : goal.returns-clause-tests
returns-clause-tests c = λ of_test has.
    let tests = c.in_ok-tests.tests.items in
    let listed = YieldsList-from_vec {s = c.into_iter-of_binary-iterator.result} c.args.selected.items (search rules) (search rules) in
    let end = YieldsList-end listed c.loop-of_binary.yielded c.loop-of_binary.of_binary-iterator c.loop-of_binary.yielded_by c.next.result c.next.new.self c.in-None.is c.next.ensures.steps in
    subst (λ (them : List SelectedTests). IsPermutation (map (with_settings of_test) (tests_in them)) tests) (sym (map-id c.loop-of_binary.yielded) ∙ end.0)
    (subst (λ (all : List PlanTest). IsPermutation all tests) (ap tests_of_all c.as_slice.ensures.value ∙ c.loop-of_binary.invariant.tests of_test has) c.in_ok-tests.ensures)

pub returns-clause-scripts : goal.returns-clause-scripts
returns-clause-scripts c =
    let profile = c.args.profile.now in
    let scripts = c.in_ok-scripts.scripts in
    let listed = YieldsList-from_vec {s = c.into_iter-of_binary-iterator.result} c.args.selected.items (search rules) (search rules) in
    let end = YieldsList-end listed c.loop-of_binary.yielded c.loop-of_binary.of_binary-iterator c.loop-of_binary.yielded_by c.next.result c.next.new.self c.in-None.is c.next.ensures.steps in
    subst (λ (them : List SelectedTests). AreNamesOf (IsEnabled HasOnTest profile (tests_in them)) scripts) (sym (map-id c.loop-of_binary.yielded) ∙ end.0)
    (same_names scripts c.loop-of_binary.invariant.scripts c.in_ok-scripts.ensures)

-- That a plan that was built is one, and which tests it has.
use Rattle.std.proofs.Common.{◌≡◌, ℕ, ◌<◌, List, [], ◌∷◌, Ok, map, length, refl, ap, sym, subst, ◌∙◌, arith}
use Rattle.std.specs.List.{AllByRecursion}
use Rattle.std.specs.List.Sorted.{IsPermutation}
use Rattle.std.proofs.lemmas.List.{length-map}
use Rattle.std.proofs.lemmas.List.Elements.{All-from_recursion, recursion_from_All}
use Rattle.std.proofs.lemmas.List.Sorted.{All-permutation, length_permutation}
use Rattle.nextest_config_resolution_profiles.specs.Enabled.{AreNamesOf}
use Rattle.nextest_filtering_filters.specs.Query.{Test}
use Rattle.nextest_config_elements_choices.specs.declared.max_fail.MaxFail.{MaxFail}
use Rattle.nextest_config_elements_choices.specs.declared.max_fail.MaxFail.TheVariants as limits
use Rattle.test_runner_core_inputs.specs.declared.inputs.Inputs.{Inputs}
use Rattle.test_runner_core_planning.specs.Filtering.{context_of}
use Rattle.test_runner_core_planning.specs.Checks.{Planned}
use Rattle.test_runner_core_planning.specs.Plan.{IsPlanOf, Plans, plan_test}
use Rattle.test_runner_core_plan.specs.declared.plan.Plan.{Plan}
use Rattle.test_runner_core_plan.specs.declared.plan.PlanTest.{PlanTest}
use Rattle.test_runner_core_run_model.specs.RunPlan.{IsPositiveLimit, IsPlan}
use Rattle.test_runner_core_run_model.specs.declared.run_test.RunTest.{RunTest}
use Rattle.test_runner_core_session.specs.Session.{run_plan, run_test}
use Rattle.test_runner_core_settings.specs.Laws.{IsOneAtLeast}
use Rattle.test_runner_core_plan.specs.declared.plan_settings.PlanSettings.{PlanSettings}
use Rattle.test_runner_core_settings.proofs.Limits.{sets_limit}
use Rattle.test_runner_core_workspace.specs.Lister.{Answer}
use Rattle.test_runner_core_workspace.specs.declared.record.Binary.{Binary}

-- a weight of failing tests that is one at least is a limit
is_limit : (limit : MaxFail) → IsOneAtLeast limit → IsPositiveLimit limit
is_limit (limits.Count max_fail terminate) one = one
is_limit limits.All one = tt

-- each test of a plan has a try
each_has_a_try : (tests : List PlanTest) → AllByRecursion (λ (test : PlanTest). 0 < test.tries) tests → AllByRecursion (λ (test : RunTest). 0 < test.tries) (map run_test tests)
each_has_a_try [] each = tt
each_has_a_try (test ∷ tests) each = (each.0, each_has_a_try tests each.1)

planned_tries : (of_test : Test → PlanSettings) (tests : List Test) → AllByRecursion (λ (test : PlanTest). 0 < test.tries) (map (plan_test of_test) tests)
planned_tries of_test [] = tt
planned_tries of_test (test ∷ tests) = (omega arith, planned_tries of_test tests)

-- where no test is selected no script is enabled
no_scripts : {Is : List ℕ → Type 0} (scripts : List (List ℕ)) → ((id : List ℕ) → ¬ Is id) → AreNamesOf Is scripts → length scripts ≡ 0
no_scripts [] none are = refl
no_scripts (id ∷ scripts) none are = absurd (none id ((are.exactly id).0 (0, omega arith, refl)))

no_tests : (of_test : Test → PlanSettings) (selected : List Test) (tests : List PlanTest) → IsPermutation (map (plan_test of_test) selected) tests → map run_test tests ≡ [] → length selected ≡ 0
no_tests of_test selected tests same none =
    sym (length-map selected (plan_test of_test)) ∙ sym (length_permutation (map (plan_test of_test) selected) tests same) ∙ sym (length-map tests run_test) ∙ ap length none

-- a plan that was built is one
pub built_is_plan : (answer : Binary → Answer) (inputs : Inputs) (it : Planned) (plan : Plan)
    → Plans answer inputs (Ok it) → IsPlanOf inputs it plan → IsPlan (run_plan plan)
built_is_plan answer inputs it plan planned built =
    let HasTry : PlanTest → Type 0 = λ test. 0 < test.tries in
    let listed = map (plan_test it.choice.of_test) it.found.tests in
    let all = All-permutation HasTry listed plan.tests built.tests (All-from_recursion HasTry listed (planned_tries it.choice.of_test it.found.tests)) in
    record {
      no_lone_script = λ none.
          let empty = no_tests it.choice.of_test it.found.tests plan.tests built.tests none in
          no_scripts plan.scripts (λ id (test, has, needs). omega (arith, has.1, empty)) built.scripts;
      tries = each_has_a_try plan.tests (recursion_from_All HasTry plan.tests all);
      limit =
          subst (λ (limit : MaxFail). IsPositiveLimit limit) (sym built.limit)
          (is_limit it.choice.run.max_fail (sets_limit (context_of inputs.workspace) inputs it.choice.run planned.found.answers.sets.run));
    }

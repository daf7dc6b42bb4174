-- Inputs have one plan.
use Rattle.std.proofs.Common.{◌≡◌, List, ℕ, map, Ok, Err, sym, ap, ◌∙◌, subst}
use Rattle.nextest_config_elements_choices.specs.declared.max_fail.MaxFail.{MaxFail}
use Rattle.nextest_config_resolution_profiles.proofs.Enabling.{one_names}
use Rattle.nextest_run_events_visibility.specs.declared.visibility.StatusLevels.{StatusLevels}
use Rattle.nextest_run_events_results.specs.declared.instance.OwnedTestInstanceId.{OwnedTestInstanceId}
use Rattle.test_runner_core_inputs.specs.declared.inputs.Inputs.{Inputs}
use Rattle.std.specs.List.Sorted.{IsPermutation, IsSorted}
use Rattle.test_runner_core_plan.proofs.OneOrder.{one_rising}
use Rattle.test_runner_core_plan.specs.Order.{plan_cmp}
use Rattle.test_runner_core_plan.specs.declared.plan.Plan.{Plan}
use Rattle.test_runner_core_plan.specs.declared.plan.PlanTest.{PlanTest}
use Rattle.test_runner_core_planning.specs.Laws.{NotPlannedAndRefused, OnePlan}
use Rattle.test_runner_core_planning.specs.Plan.{IsPlanOf, Plans, plan_test}
use Rattle.test_runner_core_planning.specs.Checks.{Planned}
use Rattle.test_runner_core_planning.proofs.Once.{plans_once}
use Rattle.test_runner_core_planning.proofs.Selected.{by_instance}
use Rattle.test_runner_core_workspace.specs.Lister.{Answer}
use Rattle.test_runner_core_workspace.specs.declared.record.Binary.{Binary}

-- a plan with other warnings
abbrev pub with_warnings : List (List ℕ) → Plan → Plan
with_warnings warnings plan = record plan { warnings = warnings }

-- plans of one selection are the same
pub plans_same : (a b : Plan) → a.scripts ≡ b.scripts → a.tests ≡ b.tests → a.listed ≡ b.listed → a.skipped ≡ b.skipped → a.limit ≡ b.limit → a.levels ≡ b.levels → a.warnings ≡ b.warnings → a ≡ b
plans_same a b scripts tests listed skipped limit levels warnings =
    ap (λ (x : List (List ℕ)). record { scripts = x; tests = a.tests; listed = a.listed; skipped = a.skipped; limit = a.limit; levels = a.levels; warnings = a.warnings }) scripts
    ∙ ap (λ (x : List PlanTest). record { scripts = b.scripts; tests = x; listed = a.listed; skipped = a.skipped; limit = a.limit; levels = a.levels; warnings = a.warnings }) tests
    ∙ ap (λ (x : List (List ℕ)). record { scripts = b.scripts; tests = b.tests; listed = x; skipped = a.skipped; limit = a.limit; levels = a.levels; warnings = a.warnings }) listed
    ∙ ap (λ (x : List OwnedTestInstanceId). record { scripts = b.scripts; tests = b.tests; listed = b.listed; skipped = x; limit = a.limit; levels = a.levels; warnings = a.warnings }) skipped
    ∙ ap (λ (x : MaxFail). record { scripts = b.scripts; tests = b.tests; listed = b.listed; skipped = b.skipped; limit = x; levels = a.levels; warnings = a.warnings }) limit
    ∙ ap (λ (x : StatusLevels). record { scripts = b.scripts; tests = b.tests; listed = b.listed; skipped = b.skipped; limit = b.limit; levels = x; warnings = a.warnings }) levels
    ∙ ap (λ (x : List (List ℕ)). record { scripts = b.scripts; tests = b.tests; listed = b.listed; skipped = b.skipped; limit = b.limit; levels = b.levels; warnings = x }) warnings

-- the tests of a plan are those of what is planned in one order
pub tests_of_one : (answer : Binary → Answer) (inputs : Inputs) (it : Planned) (one other : List PlanTest) → Plans answer inputs (Ok it)
    → IsPermutation (map (plan_test it.choice.of_test) it.found.tests) one → IsPermutation (map (plan_test it.choice.of_test) it.found.tests) other → IsSorted plan_cmp one → IsSorted plan_cmp other
    → one ≡ other
tests_of_one answer inputs it one other planned = one_rising (map (plan_test it.choice.of_test) it.found.tests) one other (by_instance answer inputs it planned)

plans_of_one : (answer : Binary → Answer) (inputs : Inputs) (it : Planned) (a b : Plan) → Plans answer inputs (Ok it) → IsPlanOf inputs it a → IsPlanOf inputs it b → a ≡ b
plans_of_one answer inputs it a b planned of_a of_b =
    plans_same a b (one_names a.scripts b.scripts of_a.scripts of_b.scripts) (tests_of_one answer inputs it a.tests b.tests planned of_a.tests of_b.tests of_a.order of_b.order)
    (of_a.listed ∙ sym of_b.listed) (of_a.skipped ∙ sym of_b.skipped) (of_a.limit ∙ sym of_b.limit) (of_a.levels ∙ sym of_b.levels) (of_a.warnings ∙ sym of_b.warnings)

pub one_plan : OnePlan
one_plan answer inputs a b of_a of_b =
    let same : of_a.0 ≡ of_b.0 = plans_once answer inputs (Ok of_a.0) (Ok of_b.0) of_a.1 of_b.1 in
    plans_of_one answer inputs of_b.0 a b of_b.1 (subst (λ (it : Planned). IsPlanOf inputs it a) same of_a.2) of_b.2

pub not_planned_and_refused : NotPlannedAndRefused
not_planned_and_refused answer inputs plan refusal (it, planned, built) refused = plans_once answer inputs (Ok it) (Err refusal) planned refused

-- A run of a plan, by names.
use Rattle.std.specs.Prelude.{◌≡◌, ℕ, List, map, length, Option, None, Some, slice_get, ⊤}
use Rattle.nextest_run_events_results.specs.declared.instance.OwnedTestInstanceId.{OwnedTestInstanceId}
use Rattle.nextest_run_events_results.specs.declared.record.Record.{Record}
use Rattle.test_runner_core_plan.specs.declared.plan.Plan.{Plan}
use Rattle.test_runner_core_plan.specs.declared.plan.PlanTest.{PlanTest}
use Rattle.test_runner_core_run_model.specs.RunPlan.{RunPlan}
use Rattle.test_runner_core_run_model.specs.State.{State, TestState, initial}
use Rattle.test_runner_core_run_model.specs.declared.run_test.RunTest.{RunTest}
use Rattle.test_runner_core_run_state.specs.Parts.{HasAttempts}
use Rattle.test_runner_core_run_state.specs.Statuses.{IsAttempts}
use Rattle.test_runner_core_session.specs.Names.{place_of}
use Rattle.test_runner_core_session.specs.declared.plan_run.KeptTest.{KeptTest}
use Rattle.test_runner_core_session.specs.declared.session.Fate.{Fate}

-- a plan, and the state of its run
pub record SessionState : Type 0 where
  pub plan : Plan
  pub run : State

-- the names of a plan's tests, by their places
abbrev pub names_of : Plan → List OwnedTestInstanceId
names_of plan = map (λ test. test.instance) plan.tests

-- the place of the first test of a name in a plan, or one past the end
abbrev pub place_in : Plan → List ℕ → List ℕ → ℕ
place_in plan id name = place_of (names_of plan) id name

abbrev pub run_test : PlanTest → RunTest
run_test test = record { tries = test.tries; flaky = test.settings.flaky_result; weight = test.settings.fail_weight }

-- a plan as a run sees it
abbrev pub run_plan : Plan → RunPlan
run_plan plan = record { scripts = length plan.scripts; tests = map run_test plan.tests; limit = plan.limit; skipped = length plan.skipped }

-- the run of a plan in which nothing ended
abbrev pub session_of : Plan → SessionState
session_of plan = record { plan = plan; run = initial (run_plan plan) }

-- the test of a name, where the plan has it
abbrev pub test_of : SessionState → List ℕ → List ℕ → Option TestState
test_of session id name = slice_get session.run.tests (place_in session.plan id name)

-- what is kept of a test is how far it is, what is planned of it, and its ended attempts; nothing
-- where there is no such test
abbrev pub IsKeptTest : {Kept : Type 0} → (RunTest → Kept → Type 0) → (Kept → List Record) → Option TestState → Option (KeptTest Kept) → Type 0
IsKeptTest are_of records None None = ⊤
IsKeptTest are_of records None (Some kept) = ⊥
IsKeptTest are_of records (Some test) None = ⊥
IsKeptTest are_of records (Some test) (Some kept) = (kept.mark ≡ test.mark) × (kept.plan ≡ test.plan) × HasAttempts are_of records (Some test) (Some kept.attempts)

-- what is told of a test is how far it is, what is planned of it, and its ended attempts; nothing
-- where there is no such test
abbrev pub IsFate : Option TestState → Option Fate → Type 0
IsFate None None = ⊤
IsFate None (Some fate) = ⊥
IsFate (Some test) None = ⊥
IsFate (Some test) (Some fate) = (fate.mark ≡ test.mark) × (fate.plan ≡ test.plan) × IsAttempts (Some test) fate.attempts

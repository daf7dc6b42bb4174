-- How runs end.
use Rattle.std.specs.Prelude.{◌≡◌, ℕ, zero, suc, true, List, [], ◌∷◌, ◌++◌, None, map, length, unwrap_or}
use Rattle.std.specs.List.{list_all}
use Rattle.nextest_run_events_results.specs.declared.record.Record.{Record}
use Rattle.test_runner_core_run_model.specs.RunPlan.{RunPlan}
use Rattle.test_runner_core_run_model.specs.declared.run_test.RunTest.{RunTest}
use Rattle.test_runner_core_run_model.specs.Assignment.{Assignment, first_success}
use Rattle.test_runner_core_run_model.specs.State.{TestState, State, is_finished}
use Rattle.test_runner_core_run_model.specs.declared.mark.Mark.TheVariants as marks

-- all scripts of the plan ended, and all of its tests are there and finished
pub record EndedWhole (plan : RunPlan) (state : State) : Type 0 where
  pub planned_scripts : state.planned_scripts ≡ plan.scripts
  pub scripts : length state.scripts ≡ plan.scripts
  pub tests : map (λ test. test.plan) state.tests ≡ plan.tests
  pub finished : list_all is_finished state.tests ≡ true

-- the records of so many first scripts, in order
abbrev pub first_scripts : (ℕ → Record) → ℕ → List Record
first_scripts script zero = []
first_scripts script (suc scripts) = first_scripts script scripts ++ script scripts ∷ []

-- the records of so many first tries, in order
abbrev pub records_of_tries : (ℕ → Record) → ℕ → List Record
records_of_tries attempt zero = []
records_of_tries attempt (suc tries) = records_of_tries attempt tries ++ attempt (suc tries) ∷ []

-- a test that is over with no reason: its tries up to the first success, or all of them
abbrev pub final_test : RunTest → (ℕ → Record) → TestState
final_test test attempt = record { plan = test; records = records_of_tries attempt (unwrap_or (first_success attempt test.tries) test.tries); mark = marks.Finished None }

abbrev pub final_tests : List RunTest → (ℕ → ℕ → Record) → List TestState
final_tests [] attempt = []
final_tests (test ∷ tests) attempt = final_test test (attempt 0) ∷ final_tests tests (λ place. attempt (suc place))

-- the state in which everything ended as it was assigned
abbrev pub final_state : RunPlan → Assignment → State
final_state plan assigned =
    record {
      planned_scripts = plan.scripts;
      scripts = first_scripts assigned.script plan.scripts;
      tests = final_tests plan.tests assigned.attempt;
      limit = plan.limit;
      skipped = plan.skipped;
      reason = None;
    }

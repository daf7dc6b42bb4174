-- What an assignment is, and what is due by it: no log, order, limit or counter comes in.
use Rattle.std.specs.Prelude.{◌≡◌, ℕ, ◌+◌, zero, suc, Bool, true, false, ◌&&◌, ◌||◌, not, nat_lt, List, [], ◌∷◌, Option, None, Some, if◌then◌else◌, length, ◌==◌}
use Rattle.nextest_config_elements_choices.specs.MaxFail.{mode_at}
use Rattle.nextest_config_elements_choices.specs.declared.timeouts.FlakyResult.{FlakyResult}
use Rattle.nextest_run_events_results.specs.Result.{is_success}
use Rattle.nextest_run_events_counters.specs.Rows.{fails_script, forbids_late}
use Rattle.nextest_run_events_results.specs.declared.record.Record.{Record}
use Rattle.test_runner_core_run_model.specs.RunPlan.{RunPlan}
use Rattle.test_runner_core_run_model.specs.declared.run_test.RunTest.{RunTest}

-- how each script ends, by its place, and each attempt of each test, by the test's place and the
-- number of the try, from 1. What the plan doesn't have doesn't matter
pub record Assignment : Type 0 where
  pub script : ℕ → Record
  pub attempt : ℕ → ℕ → Record

-- a number that was found before, or else this one where it succeeds
abbrev pub found_or : Option ℕ → Bool → ℕ → Option ℕ
found_or (Some number) succeeds last = Some number
found_or None succeeds last = if succeeds then Some last else None

-- the number of the first success among so many tries, if there is one
abbrev pub first_success : (ℕ → Record) → ℕ → Option ℕ
first_success attempt zero = None
first_success attempt (suc tries) = found_or (first_success attempt tries) (is_success (attempt (suc tries)).result) (suc tries)

-- a test fails where it has no success, or a late one against its flaky rule
abbrev pub fails_by_first : FlakyResult → Option ℕ → Bool
fails_by_first flaky None = true
fails_by_first flaky (Some number) = nat_lt 1 number && forbids_late flaky

-- the test fails
abbrev pub fails : RunTest → (ℕ → Record) → Bool
fails test attempt = fails_by_first test.flaky (first_success attempt test.tries)

-- one of the tests fails
abbrev pub some_test_fails : List RunTest → (ℕ → ℕ → Record) → Bool
some_test_fails [] attempt = false
some_test_fails (test ∷ tests) attempt = fails test (attempt 0) || some_test_fails tests (λ place. attempt (suc place))

-- what the tests that fail weigh together
abbrev pub failing_weight : List RunTest → (ℕ → ℕ → Record) → ℕ
failing_weight [] attempt = 0
failing_weight (test ∷ tests) attempt = (if fails test (attempt 0) then test.weight else 0) + failing_weight tests (λ place. attempt (suc place))

-- one of so many first scripts ends in a way that a test holds of
abbrev pub some_script : (Record → Bool) → (ℕ → Record) → ℕ → Bool
some_script test script zero = false
some_script test script (suc scripts) = some_script test script scripts || test (script scripts)

-- the status that is due: 4 where nothing is selected, 105 where a script counts as failing, 100
-- where a test fails, 0
abbrev pub due_status : RunPlan → Assignment → ℕ
due_status plan assigned =
    if length plan.tests == 0 then 4
    else if some_script (λ ending. fails_script ending.result) assigned.script plan.scripts then 105
    else if some_test_fails plan.tests assigned.attempt then 100
    else 0

-- no script's record stops the run, and what fails doesn't reach the limit
pub record IsUnstopped (plan : RunPlan) (assigned : Assignment) : Type 0 where
  pub scripts : some_script (λ ending. not (is_success ending.result)) assigned.script plan.scripts ≡ false
  pub limit : mode_at plan.limit (failing_weight plan.tests assigned.attempt) ≡ None

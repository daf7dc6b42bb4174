-- The state of a run.
use Rattle.std.specs.Prelude.{ℕ, Bool, true, false, ◌-◌, length, List, [], Option, None, map, nat_lt, slice_get, if◌then◌else◌, sum_by, ◌&&◌}
use Rattle.std.specs.Option.{option_map_or}
use Rattle.nextest_config_elements_choices.specs.declared.max_fail.MaxFail.{MaxFail}
use Rattle.nextest_run_events_results.specs.declared.cancel_reason.CancelReason.{CancelReason}
use Rattle.nextest_run_events_counters.specs.Rows.{Finished, fails_test}
use Rattle.nextest_run_events_results.specs.declared.record.Record.{Record}
use Rattle.test_runner_core_run_model.specs.RunPlan.{RunPlan}
use Rattle.test_runner_core_run_model.specs.declared.run_test.RunTest.{RunTest}
use Rattle.test_runner_core_run_model.specs.declared.mark.Mark.{Mark}
use Rattle.test_runner_core_run_model.specs.declared.mark.Mark.TheVariants as marks

-- a test: its plan, the records of the attempts that ended, in their order, and how far it is
pub record TestState : Type 0 where
  pub plan : RunTest
  pub records : List Record
  pub mark : Mark

-- a run: how many scripts are to run and the records of those that ended, in their order; the tests
-- by their places; the limit and the number of skipped tests of the plan; and the reason for which
-- the run is stopped, if it is
pub record State : Type 0 where
  pub planned_scripts : ℕ
  pub scripts : List Record
  pub tests : List TestState
  pub limit : MaxFail
  pub skipped : ℕ
  pub reason : Option CancelReason

abbrev pub waiting : RunTest → TestState
waiting test = record { plan = test; records = []; mark = marks.Waiting }

-- the state in which nothing ended
abbrev pub initial : RunPlan → State
initial plan = record { planned_scripts = plan.scripts; scripts = []; tests = map waiting plan.tests; limit = plan.limit; skipped = plan.skipped; reason = None }

abbrev pub is_finished_mark : Mark → Bool
is_finished_mark marks.Waiting = false
is_finished_mark marks.Running = false
is_finished_mark marks.Between = false
is_finished_mark (marks.Finished reason) = true

abbrev pub is_running_mark : Mark → Bool
is_running_mark marks.Waiting = false
is_running_mark marks.Running = true
is_running_mark marks.Between = false
is_running_mark (marks.Finished reason) = false

abbrev pub is_finished : TestState → Bool
is_finished test = is_finished_mark test.mark

abbrev pub is_running : TestState → Bool
is_running test = is_running_mark test.mark

-- the last record, if there is one
abbrev pub last_record : List Record → Option Record
last_record records = slice_get records (length records - 1)

-- a finished test counts by its last record, and is late where it has more than one
abbrev pub finished_as : TestState → Record → Finished
finished_as test ending = record { result = ending.result; slow = ending.slow; late = nat_lt 1 (length test.records); flaky = test.plan.flaky }

-- whether a test is finished and counts in a row
abbrev pub counts : (Finished → Bool) → TestState → Bool
counts row test = is_finished test && option_map_or (λ ending. row (finished_as test ending)) (last_record test.records) false

-- what the finished tests that count as failing weigh together
abbrev pub failed_weight : List TestState → ℕ
failed_weight = sum_by (λ test. if counts fails_test test then test.plan.weight else 0)

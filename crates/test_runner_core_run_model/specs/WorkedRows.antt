-- Worked rows: small runs of two tests, a and b, and where they end, with the reason that stands
-- and each counter.
use Rattle.std.specs.Prelude.{◌≡◌, ℕ, false, pos, List, [], ◌∷◌, ◌++◌, None, Some, Result, Ok, Err}
use Rattle.nextest_config_elements_choices.specs.declared.timeouts.FlakyResult.{FlakyResult}
use Rattle.nextest_config_elements_choices.specs.declared.timeouts.FlakyResult.TheVariants as flaky_rule
use Rattle.nextest_config_elements_choices.specs.declared.timeouts.SlowTimeoutResult.TheVariants as timeout_judged
use Rattle.nextest_config_elements_choices.specs.declared.max_fail.MaxFail.{MaxFail}
use Rattle.nextest_config_elements_choices.specs.declared.max_fail.MaxFail.TheVariants as limits
use Rattle.nextest_config_elements_choices.specs.declared.max_fail.TerminateMode.TheVariants as modes
use Rattle.nextest_run_events_results.specs.declared.cancel_reason.CancelReason.TheVariants as why
use Rattle.nextest_run_events_results.specs.declared.result.FailureDescription.TheVariants as failed_by
use Rattle.nextest_run_events_results.specs.declared.result.AbortDescription.TheVariants as aborted_by
use Rattle.nextest_run_events_results.specs.declared.result.ExecutionResultDescription.{ExecutionResultDescription}
use Rattle.nextest_run_events_results.specs.declared.result.ExecutionResultDescription.TheVariants as ended
use Rattle.nextest_run_events_counters.specs.declared.run_stats.RunStats.{RunStats}
use Rattle.nextest_run_events_counters.specs.declared.summary.FinalRunStats.{FinalRunStats}
use Rattle.nextest_run_events_counters.specs.declared.summary.FinalRunStats.TheVariants as summed
use Rattle.nextest_run_events_counters.specs.declared.summary.RunStatsFailureKind.TheVariants as at
use Rattle.nextest_run_events_results.specs.declared.record.Record.{Record}
use Rattle.nextest_run_events_results.specs.declared.record.RecordOutput.TheVariants as wrote
use Rattle.test_runner_core_run_model.specs.RunPlan.{RunPlan}
use Rattle.test_runner_core_run_model.specs.declared.run_test.RunTest.{RunTest}
use Rattle.test_runner_core_run_model.specs.State.{State, initial}
use Rattle.test_runner_core_run_model.specs.Counters.{counters, summary, status}
use Rattle.test_runner_core_run_model.specs.Step.{step}
use Rattle.test_runner_core_run_model.specs.declared.event.Event.{Event}
use Rattle.test_runner_core_run_model.specs.declared.event.Event.TheVariants as events
use Rattle.test_runner_core_run_model.specs.declared.step_refusal.StepRefusal.{StepRefusal}
use Rattle.test_runner_core_run_model.specs.declared.step_refusal.StepRefusal.TheVariants as refused

-- where a run is: its counters with the reason that stands, what they come to, and the status
pub record End : Type 0 where
  pub counters : RunStats
  pub summary : FinalRunStats
  pub status : ℕ

abbrev pub end_of : State → End
end_of state = record { counters = counters state; summary = summary state; status = status state }

-- where a run is after events, or the first refusal
abbrev pub then_all : Result State StepRefusal → List Event → Result End StepRefusal
then_all (Err refusal) more = Err refusal
then_all (Ok state) [] = Ok (end_of state)
then_all (Ok state) (event ∷ more) = then_all (step state event) more

abbrev pub ends : RunPlan → List Event → Result End StepRefusal
ends plan run = then_all (Ok (initial plan)) run

-- so many scripts and tests that were to run, and skipped tests, of which none finished
abbrev pub none_of : ℕ → ℕ → ℕ → RunStats
none_of scripts tests skipped =
    record {
      initial_run_count = tests;
      finished_count = 0;
      setup_scripts_initial_count = scripts;
      setup_scripts_finished_count = 0;
      setup_scripts_passed = 0;
      setup_scripts_failed = 0;
      setup_scripts_exec_failed = 0;
      setup_scripts_timed_out = 0;
      passed = 0;
      passed_slow = 0;
      passed_timed_out = 0;
      flaky = 0;
      failed = 0;
      failed_slow = 0;
      failed_timed_out = 0;
      leaky = 0;
      leaky_failed = 0;
      exec_failed = 0;
      skipped = skipped;
      failed_weight = 0;
      cancel_reason = None;
    }

-- the two tests, without scripts
abbrev pub two : RunStats
two = none_of 0 2 0

-- a test of this weight
abbrev pub weighing : ℕ → FlakyResult → ℕ → RunTest
weighing tries flaky weight = record { tries = tries; flaky = flaky; weight = weight }

-- a plan of tests a and b, which weigh 1 each
abbrev pub two_tests : ℕ → FlakyResult → MaxFail → ℕ → RunPlan
two_tests tries flaky limit scripts =
    record { scripts = scripts; tests = weighing tries flaky 1 ∷ weighing tries flaky 1 ∷ []; limit = limit; skipped = 0 }

-- a plan of a test a that weighs 3 and a test b that weighs 1, of which 3 stop the run
abbrev pub weighed : ℕ → FlakyResult → RunPlan
weighed tries flaky =
    record { scripts = 0; tests = weighing tries flaky 3 ∷ weighing tries flaky 1 ∷ []; limit = limits.Count 3 modes.Wait; skipped = 0 }

abbrev pub record_with : ExecutionResultDescription → Record
record_with result = record { result = result; slow = false; nanos = 1; output = wrote.Streams None None }

abbrev pub fail_1 : ExecutionResultDescription
fail_1 = ended.Fail (failed_by.ExitCode (pos 1)) false

abbrev pub attempt : ℕ → ExecutionResultDescription → List Event
attempt test result = events.Started test ∷ events.Ended test (record_with result) ∷ []

abbrev pub first_failure : MaxFail
first_failure = limits.Count 1 modes.Wait

pub record WorkedRows : Type 0 where
  -- retries = 1, fail-fast = false; a fails once and passes, b passes
  pub retried : ends (two_tests 2 flaky_rule.Pass limits.All 0) (attempt 0 fail_1 ++ attempt 0 ended.Pass ++ attempt 1 ended.Pass)
      ≡ Ok (record { counters = record two { finished_count = 2; passed = 2; flaky = 1 }; summary = summed.Success; status = 0 })
  -- the same with flaky-result = "fail"
  pub flaky_failed : ends (two_tests 2 flaky_rule.Fail limits.All 0) (attempt 0 fail_1 ++ attempt 0 ended.Pass ++ attempt 1 ended.Pass)
      ≡ Ok (record { counters = record two { finished_count = 2; passed = 1; failed = 1; failed_weight = 1 }; summary = summed.Failed (at.Test 2 0); status = 100 })
  -- the first failure stops the run, whichever test it is
  pub a_failed : ends (two_tests 1 flaky_rule.Pass first_failure 0) (attempt 0 fail_1)
      ≡ Ok (record { counters = record two { finished_count = 1; failed = 1; failed_weight = 1; cancel_reason = Some why.TestFailure }; summary = summed.Failed (at.Test 2 1); status = 100 })
  pub b_failed : ends (two_tests 1 flaky_rule.Pass first_failure 0) (attempt 1 fail_1)
      ≡ Ok (record { counters = record two { finished_count = 1; failed = 1; failed_weight = 1; cancel_reason = Some why.TestFailure }; summary = summed.Failed (at.Test 2 1); status = 100 })
  -- nothing selected: nothing can fail
  pub nothing : ends (record { scripts = 0; tests = []; limit = first_failure; skipped = 2 }) []
      ≡ Ok (record { counters = none_of 0 0 2; summary = summed.NoTestsRun; status = 4 })
  pub nothing_interrupted : ends (record { scripts = 0; tests = []; limit = first_failure; skipped = 2 }) (events.Stopped why.Interrupt ∷ [])
      ≡ Ok (record { counters = record (none_of 0 0 2) { cancel_reason = Some why.Interrupt }; summary = summed.NoTestsRun; status = 4 })
  -- the log ends without b
  pub cut_short : ends (two_tests 1 flaky_rule.Pass first_failure 0) (attempt 0 ended.Pass)
      ≡ Ok (record { counters = record two { finished_count = 1; passed = 1 }; summary = summed.Cancelled None (at.Test 2 1); status = 100 })
  -- a script's passing timeout lets the run go on, and counts as failing
  pub script_timeout : ends (two_tests 1 flaky_rule.Pass first_failure 1) (events.ScriptEnded 0 (record_with (ended.Timeout timeout_judged.Pass)) ∷ [] ++ attempt 0 ended.Pass ++ attempt 1 ended.Pass)
      ≡ Ok (record { counters = record (none_of 1 2 0) { setup_scripts_finished_count = 1; setup_scripts_timed_out = 1; finished_count = 2; passed = 2 }; summary = summed.Failed at.SetupScript; status = 105 })
  -- an interrupt after the last test, and before it
  pub late_interrupt : ends (two_tests 1 flaky_rule.Pass first_failure 0) (attempt 0 ended.Pass ++ attempt 1 ended.Pass ++ events.Stopped why.Interrupt ∷ [])
      ≡ Ok (record { counters = record two { finished_count = 2; passed = 2; cancel_reason = Some why.Interrupt }; summary = summed.Success; status = 0 })
  pub interrupt : ends (two_tests 1 flaky_rule.Pass first_failure 0) (attempt 0 ended.Pass ++ events.Stopped why.Interrupt ∷ [])
      ≡ Ok (record { counters = record two { finished_count = 1; passed = 1; cancel_reason = Some why.Interrupt }; summary = summed.Cancelled (Some why.Interrupt) (at.Test 2 1); status = 100 })
  -- nothing starts once the run is stopped
  pub start_after_stop : ends (two_tests 1 flaky_rule.Pass first_failure 0) (attempt 0 fail_1 ++ events.Started 1 ∷ []) ≡ Err refused.Stopped
  -- what runs when the limit stops the run may end
  pub immediate : ends (two_tests 1 flaky_rule.Pass (limits.Count 1 modes.Immediate) 0)
      (events.Started 0 ∷ events.Started 1 ∷ events.Ended 1 (record_with fail_1) ∷ events.Ended 0 (record_with (ended.Fail (failed_by.Abort (aborted_by.UnixSignal (pos 15) None)) false)) ∷ [])
      ≡ Ok (record { counters = record two { finished_count = 2; failed = 2; failed_weight = 2; cancel_reason = Some why.TestFailureImmediate }; summary = summed.Failed (at.Test 2 0); status = 100 })
  -- a failing script stops the run
  pub script_failed : ends (two_tests 1 flaky_rule.Pass first_failure 1) (events.ScriptEnded 0 (record_with fail_1) ∷ [])
      ≡ Ok (record { counters = record (none_of 1 2 0) { setup_scripts_finished_count = 1; setup_scripts_failed = 1; cancel_reason = Some why.SetupScriptFailure }; summary = summed.Failed at.SetupScript; status = 105 })
  pub start_after_script : ends (two_tests 1 flaky_rule.Pass first_failure 1) (events.ScriptEnded 0 (record_with fail_1) ∷ events.Started 0 ∷ []) ≡ Err refused.Stopped
  -- tests wait for scripts, scripts come in order, each once
  pub too_early : ends (two_tests 1 flaky_rule.Pass first_failure 1) (events.Started 0 ∷ []) ≡ Err refused.ScriptsPending
  pub unknown_script : ends (two_tests 1 flaky_rule.Pass first_failure 1) (events.ScriptEnded 1 (record_with ended.Pass) ∷ []) ≡ Err refused.UnknownScript
  pub twice : ends (two_tests 1 flaky_rule.Pass first_failure 1) (events.ScriptEnded 0 (record_with ended.Pass) ∷ events.ScriptEnded 0 (record_with ended.Pass) ∷ []) ≡ Err refused.OutOfOrder
  pub out_of_order : ends (two_tests 1 flaky_rule.Pass first_failure 2) (events.ScriptEnded 1 (record_with ended.Pass) ∷ []) ≡ Err refused.OutOfOrder
  -- a stop finishes a test between two attempts
  pub between : ends (two_tests 2 flaky_rule.Pass limits.All 0) (attempt 0 fail_1 ++ events.Stopped why.Interrupt ∷ [])
      ≡ Ok (record { counters = record two { finished_count = 1; failed = 1; failed_weight = 1; cancel_reason = Some why.Interrupt }; summary = summed.Cancelled (Some why.Interrupt) (at.Test 2 1); status = 100 })
  -- a alone weighs as much as the limit
  pub heavy_failed : ends (weighed 1 flaky_rule.Pass) (attempt 0 fail_1)
      ≡ Ok (record { counters = record two { finished_count = 1; failed = 1; failed_weight = 3; cancel_reason = Some why.TestFailure }; summary = summed.Failed (at.Test 2 1); status = 100 })
  pub start_after_heavy : ends (weighed 1 flaky_rule.Pass) (attempt 0 fail_1 ++ events.Started 1 ∷ []) ≡ Err refused.Stopped
  -- b doesn't, so that a goes on
  pub light_failed : ends (weighed 1 flaky_rule.Pass) (attempt 1 fail_1 ++ attempt 0 fail_1)
      ≡ Ok (record { counters = record two { finished_count = 2; failed = 2; failed_weight = 4; cancel_reason = Some why.TestFailure }; summary = summed.Failed (at.Test 2 0); status = 100 })
  -- an attempt that fails weighs nothing where the test passes in the end, and the test weighs once
  -- where it may not pass late
  pub heavy_retried : ends (weighed 2 flaky_rule.Pass) (attempt 0 fail_1 ++ attempt 0 ended.Pass ++ attempt 1 ended.Pass)
      ≡ Ok (record { counters = record two { finished_count = 2; passed = 2; flaky = 1 }; summary = summed.Success; status = 0 })
  pub heavy_flaky : ends (weighed 2 flaky_rule.Fail) (attempt 0 fail_1 ++ attempt 0 ended.Pass)
      ≡ Ok (record { counters = record two { finished_count = 1; failed = 1; failed_weight = 3; cancel_reason = Some why.TestFailure }; summary = summed.Failed (at.Test 2 1); status = 100 })

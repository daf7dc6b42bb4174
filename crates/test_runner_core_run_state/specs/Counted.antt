-- The counters, as tests finish one after another.
use Rattle.std.specs.Prelude.{◌≡◌, ◌+◌, List, count_by, length, nat_lt, if◌then◌else◌}
use Rattle.std.specs.Int.{from_bool}
use Rattle.std.specs.Option.{option_map_or}
use Rattle.nextest_config_elements_choices.specs.FailWeight.{capped}
use Rattle.nextest_run_events_counters.specs.Counting.{with_test}
use Rattle.nextest_run_events_counters.specs.Rows as rows
use Rattle.nextest_run_events_results.specs.declared.record.Record.{Record}
use Rattle.nextest_run_events_counters.specs.declared.run_stats.RunStats.{RunStats}
use Rattle.test_runner_core_run_model.specs.State.{TestState, counts, failed_weight, is_finished, last_record}
use Rattle.test_runner_core_run_model.specs.declared.run_test.RunTest.{RunTest}

-- a test counted in each row, where it is finished, and what it weighs, where it fails
abbrev pub with_finished : TestState → RunStats → RunStats
with_finished test stats =
    record stats {
      finished_count = stats.finished_count + from_bool (is_finished test);
      passed = stats.passed + from_bool (counts rows.is_passed test);
      passed_slow = stats.passed_slow + from_bool (counts rows.passed_slow test);
      passed_timed_out = stats.passed_timed_out + from_bool (counts rows.passed_timed_out test);
      flaky = stats.flaky + from_bool (counts rows.flaky test);
      failed = stats.failed + from_bool (counts rows.is_failed test);
      failed_slow = stats.failed_slow + from_bool (counts rows.failed_slow test);
      failed_timed_out = stats.failed_timed_out + from_bool (counts rows.failed_timed_out test);
      leaky = stats.leaky + from_bool (counts rows.leaky test);
      leaky_failed = stats.leaky_failed + from_bool (counts rows.leaky_failed test);
      exec_failed = stats.exec_failed + from_bool (counts rows.exec_failed test);
      failed_weight = if counts rows.fails_test test then capped (stats.failed_weight + test.plan.weight) else stats.failed_weight;
    }

-- no test is counted yet
pub record CountsNoTest (stats : RunStats) : Type 0 where
  pub finished : stats.finished_count ≡ 0
  pub passed : stats.passed ≡ 0
  pub passed_slow : stats.passed_slow ≡ 0
  pub passed_timed_out : stats.passed_timed_out ≡ 0
  pub flaky : stats.flaky ≡ 0
  pub failed : stats.failed ≡ 0
  pub failed_slow : stats.failed_slow ≡ 0
  pub failed_timed_out : stats.failed_timed_out ≡ 0
  pub leaky : stats.leaky ≡ 0
  pub leaky_failed : stats.leaky_failed ≡ 0
  pub exec_failed : stats.exec_failed ≡ 0
  pub failed_weight : stats.failed_weight ≡ 0

-- the counters, with the tests counted anew
abbrev pub with_tests_counted : List TestState → RunStats → RunStats
with_tests_counted tests stats =
    record stats {
      finished_count = count_by is_finished tests;
      passed = count_by (counts rows.is_passed) tests;
      passed_slow = count_by (counts rows.passed_slow) tests;
      passed_timed_out = count_by (counts rows.passed_timed_out) tests;
      flaky = count_by (counts rows.flaky) tests;
      failed = count_by (counts rows.is_failed) tests;
      failed_slow = count_by (counts rows.failed_slow) tests;
      failed_timed_out = count_by (counts rows.failed_timed_out) tests;
      leaky = count_by (counts rows.leaky) tests;
      leaky_failed = count_by (counts rows.leaky_failed) tests;
      exec_failed = count_by (counts rows.exec_failed) tests;
      failed_weight = capped (failed_weight tests);
    }

-- a finished test with this plan, counted by the last of its records, where it has one
abbrev pub with_last_record : RunTest → List Record → RunStats → RunStats
with_last_record plan records stats =
    option_map_or (λ ending. with_test (record { result = ending.result; slow = ending.slow; late = nat_lt 1 (length records); flaky = plan.flaky }) plan.weight stats) (last_record records) stats

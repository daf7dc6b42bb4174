-- What a finished script or test adds to the counters: one in each row that holds of it, and what it
-- weighs if it is a test that fails.
use Rattle.std.specs.Prelude.{ℕ, ◌+◌, ◌^◌, ◌<◌, Bool, length, nat_lt, if◌then◌else◌}
use Rattle.std.specs.Option.{option_map_or}
use Rattle.std.specs.Int.{from_bool}
use Rattle.nextest_config_elements_choices.specs.FailWeight.{capped}
use Rattle.nextest_run_events_results.specs.declared.result.ExecutionResultDescription.{ExecutionResultDescription}
use Rattle.nextest_run_events_counters.specs.Attempts.{Attempts, last}
use Rattle.nextest_run_events_outputs.specs.declared.execute_status.ExecuteStatus.{ExecuteStatus}
use Rattle.nextest_run_events_counters.specs.Rows as rows
use Rattle.nextest_run_events_counters.specs.declared.run_stats.RunStats.{RunStats}

-- a script that ended so, counted
abbrev pub with_script : ExecutionResultDescription → RunStats → RunStats
with_script ended stats =
    record stats {
      setup_scripts_finished_count = stats.setup_scripts_finished_count + 1;
      setup_scripts_passed = stats.setup_scripts_passed + from_bool (rows.script_passed ended);
      setup_scripts_failed = stats.setup_scripts_failed + from_bool (rows.script_failed ended);
      setup_scripts_exec_failed = stats.setup_scripts_exec_failed + from_bool (rows.script_exec_failed ended);
      setup_scripts_timed_out = stats.setup_scripts_timed_out + from_bool (rows.script_timed_out ended);
    }

-- a finished test of this weight, counted
abbrev pub with_test : rows.Finished → ℕ → RunStats → RunStats
with_test test weight stats =
    record stats {
      finished_count = stats.finished_count + 1;
      passed = stats.passed + from_bool (rows.is_passed test);
      passed_slow = stats.passed_slow + from_bool (rows.passed_slow test);
      passed_timed_out = stats.passed_timed_out + from_bool (rows.passed_timed_out test);
      flaky = stats.flaky + from_bool (rows.flaky test);
      failed = stats.failed + from_bool (rows.is_failed test);
      failed_slow = stats.failed_slow + from_bool (rows.failed_slow test);
      failed_timed_out = stats.failed_timed_out + from_bool (rows.failed_timed_out test);
      leaky = stats.leaky + from_bool (rows.leaky test);
      leaky_failed = stats.leaky_failed + from_bool (rows.leaky_failed test);
      exec_failed = stats.exec_failed + from_bool (rows.exec_failed test);
      failed_weight = if rows.fails_test test then capped (stats.failed_weight + weight) else stats.failed_weight;
    }

-- a test by its attempts, the last of which is this one
abbrev pub finished_as : {S O : Type 0} → Attempts (ExecuteStatus S O) → ExecuteStatus S O → rows.Finished
finished_as attempts final =
    record { result = final.result; slow = final.is_slow; late = nat_lt 1 (length attempts.statuses); flaky = attempts.flaky_result }

-- the test of these attempts and this weight, counted by the last attempt
abbrev pub with_attempts : {S O : Type 0} → Attempts (ExecuteStatus S O) → ℕ → RunStats → RunStats
with_attempts attempts weight stats = option_map_or (λ final. with_test (finished_as attempts final) weight stats) (last attempts.statuses) stats

-- the parts of counting a test, all but the number of finished ones: what a failing test weighs
abbrev pub with_weight : ℕ → RunStats → RunStats
with_weight weight stats = record stats { failed_weight = capped (stats.failed_weight + weight) }

-- a test that failed
abbrev pub with_failure : Bool → ℕ → RunStats → RunStats
with_failure slow weight stats =
    with_weight weight (record stats { failed = stats.failed + 1; failed_slow = stats.failed_slow + from_bool slow })

-- a test whose last attempt was a success in time, which may fail by its flaky rule
abbrev pub with_success : Bool → Bool → Bool → ℕ → RunStats → RunStats
with_success slow late late_fails weight stats =
    if late_fails then with_failure slow weight stats
    else record stats { passed = stats.passed + 1; passed_slow = stats.passed_slow + from_bool slow; flaky = stats.flaky + from_bool late }

-- the same where the last attempt took too long, which counts as passed_timed_out and not as slow
abbrev pub with_passing_timeout : Bool → Bool → Bool → ℕ → RunStats → RunStats
with_passing_timeout slow late late_fails weight stats =
    if late_fails then with_failure slow weight stats
    else record stats { passed = stats.passed + 1; passed_timed_out = stats.passed_timed_out + 1; flaky = stats.flaky + from_bool late }

-- no counter of scripts is the greatest number of its type
pub record CanCountScript (stats : RunStats) : Type 0 where
  pub finished : stats.setup_scripts_finished_count + 1 < 2 ^ 64
  pub passed : stats.setup_scripts_passed + 1 < 2 ^ 64
  pub failed : stats.setup_scripts_failed + 1 < 2 ^ 64
  pub exec_failed : stats.setup_scripts_exec_failed + 1 < 2 ^ 64
  pub timed_out : stats.setup_scripts_timed_out + 1 < 2 ^ 64

-- no counter that counts tests is; what failing tests weigh may be the greatest
pub record CanCountTest (stats : RunStats) : Type 0 where
  pub finished : stats.finished_count + 1 < 2 ^ 64
  pub passed : stats.passed + 1 < 2 ^ 64
  pub passed_slow : stats.passed_slow + 1 < 2 ^ 64
  pub passed_timed_out : stats.passed_timed_out + 1 < 2 ^ 64
  pub flaky : stats.flaky + 1 < 2 ^ 64
  pub failed : stats.failed + 1 < 2 ^ 64
  pub failed_slow : stats.failed_slow + 1 < 2 ^ 64
  pub failed_timed_out : stats.failed_timed_out + 1 < 2 ^ 64
  pub leaky : stats.leaky + 1 < 2 ^ 64
  pub leaky_failed : stats.leaky_failed + 1 < 2 ^ 64
  pub exec_failed : stats.exec_failed + 1 < 2 ^ 64

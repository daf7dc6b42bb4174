-- The counters of a run and its status: numbers of finished scripts and tests that count in a row,
-- and what the failing ones weigh.
use Rattle.std.specs.Prelude.{ℕ, length, count_by}
use Rattle.nextest_config_elements_choices.specs.FailWeight.{capped}
use Rattle.nextest_run_events_counters.specs.Rows as rows
use Rattle.nextest_run_events_counters.specs.Summary.{summary_of}
use Rattle.nextest_run_events_counters.specs.declared.run_stats.RunStats.{RunStats}
use Rattle.nextest_run_events_counters.specs.declared.summary.FinalRunStats.{FinalRunStats}
use Rattle.nextest_run_events_counters.specs.declared.summary.FinalRunStats.TheVariants as summed
use Rattle.nextest_run_events_counters.specs.declared.summary.RunStatsFailureKind.{RunStatsFailureKind}
use Rattle.nextest_run_events_counters.specs.declared.summary.RunStatsFailureKind.TheVariants as at
use Rattle.test_runner_core_run_model.specs.State.{State, counts, failed_weight, is_finished}

-- the counters
abbrev pub counters : State → RunStats
counters state =
    record {
      initial_run_count = length state.tests;
      finished_count = count_by is_finished state.tests;
      setup_scripts_initial_count = state.planned_scripts;
      setup_scripts_finished_count = length state.scripts;
      setup_scripts_passed = count_by (λ ending. rows.script_passed ending.result) state.scripts;
      setup_scripts_failed = count_by (λ ending. rows.script_failed ending.result) state.scripts;
      setup_scripts_exec_failed = count_by (λ ending. rows.script_exec_failed ending.result) state.scripts;
      setup_scripts_timed_out = count_by (λ ending. rows.script_timed_out ending.result) state.scripts;
      passed = count_by (counts rows.is_passed) state.tests;
      passed_slow = count_by (counts rows.passed_slow) state.tests;
      passed_timed_out = count_by (counts rows.passed_timed_out) state.tests;
      flaky = count_by (counts rows.flaky) state.tests;
      failed = count_by (counts rows.is_failed) state.tests;
      failed_slow = count_by (counts rows.failed_slow) state.tests;
      failed_timed_out = count_by (counts rows.failed_timed_out) state.tests;
      leaky = count_by (counts rows.leaky) state.tests;
      leaky_failed = count_by (counts rows.leaky_failed) state.tests;
      exec_failed = count_by (counts rows.exec_failed) state.tests;
      skipped = state.skipped;
      failed_weight = capped (failed_weight state.tests);
      cancel_reason = state.reason;
    }

-- what the counters come to
abbrev pub summary : State → FinalRunStats
summary state = summary_of (counters state)

-- the status of a failure, or of an end, at a script or a test
abbrev pub status_at : RunStatsFailureKind → ℕ
status_at at.SetupScript = 105
status_at (at.Test initial_run_count not_run) = 100

abbrev pub status_of : FinalRunStats → ℕ
status_of summed.Success = 0
status_of summed.NoTestsRun = 4
status_of (summed.Cancelled reason kind) = status_at kind
status_of (summed.Failed kind) = status_at kind

-- the status of a run, wherever it is
abbrev pub status : State → ℕ
status state = status_of (summary state)

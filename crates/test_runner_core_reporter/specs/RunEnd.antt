-- Where a run ended, as the final text reports it.
use Rattle.std.specs.Prelude.{ℕ, List, [], ◌∷◌, ◌++◌, codes, decimal, Option, None, Some}
use Rattle.nextest_run_events_counters.specs.declared.run_stats.RunStats.{RunStats}
use Rattle.nextest_run_events_counters.specs.declared.summary.FinalRunStats.{FinalRunStats}
use Rattle.nextest_run_events_counters.specs.declared.summary.FinalRunStats.TheVariants as summed
use Rattle.nextest_run_events_counters.specs.declared.summary.RunStatsFailureKind.{RunStatsFailureKind}
use Rattle.nextest_run_events_counters.specs.declared.summary.RunStatsFailureKind.TheVariants as at
use Rattle.nextest_run_events_results.specs.declared.cancel_reason.CancelReason.{CancelReason}
use Rattle.test_runner_core_line_syntax.specs.Spelling.{reason_word}
use Rattle.test_runner_core_run_model.specs.Counters.{counters, status_of, summary}
use Rattle.test_runner_core_run_model.specs.State.{State}
use Rattle.test_runner_core_reporter.specs.declared.run_end.RunEnd.{RunEnd}

-- the byte that divides fields, and the one that ends a line
abbrev pub TAB : ℕ
TAB = 9

abbrev pub LF : ℕ
LF = 10

-- where a run ended: its counters, and what they come to
abbrev pub end_of : State → RunEnd
end_of state = record { outcome = summary state; stats = counters state }

-- where a run failed or was cut short: at the scripts, or at the tests with how many were to run
-- and how many did not
abbrev pub step_words : RunStatsFailureKind → List ℕ
step_words at.SetupScript = codes "setup-script"
step_words (at.Test initial_run_count not_run) = codes "test " ++ decimal initial_run_count ++ codes " " ++ decimal not_run

-- a reason, where one stands
abbrev pub reason_words : Option CancelReason → List ℕ
reason_words None = codes "-"
reason_words (Some reason) = reason_word reason

-- what the counters come to
abbrev pub outcome_words : FinalRunStats → List ℕ
outcome_words summed.Success = codes "success"
outcome_words summed.NoTestsRun = codes "no-tests-run"
outcome_words (summed.Cancelled reason kind) = codes "cancelled " ++ step_words kind ++ codes " " ++ reason_words reason
outcome_words (summed.Failed kind) = codes "failed " ++ step_words kind

-- a name and a number on a line
unfoldable pub number_line : List ℕ → ℕ → List ℕ
number_line name number = name ++ TAB ∷ decimal number ++ LF ∷ []

-- names and numbers, a line each
abbrev pub number_lines : List (List ℕ × ℕ) → List ℕ
number_lines [] = []
number_lines ((name, number) ∷ []) = number_line name number
number_lines ((name, number) ∷ next ∷ more) = number_line name number ++ number_lines (next ∷ more)

-- the counters of setup scripts
unfoldable pub script_lines : RunStats → List ℕ
script_lines stats = number_lines (
    (codes "setup-scripts-initial-count", stats.setup_scripts_initial_count) ∷
    (codes "setup-scripts-finished-count", stats.setup_scripts_finished_count) ∷
    (codes "setup-scripts-passed", stats.setup_scripts_passed) ∷
    (codes "setup-scripts-failed", stats.setup_scripts_failed) ∷
    (codes "setup-scripts-exec-failed", stats.setup_scripts_exec_failed) ∷
    (codes "setup-scripts-timed-out", stats.setup_scripts_timed_out) ∷
    []
    )

-- of tests that passed
unfoldable pub passed_lines : RunStats → List ℕ
passed_lines stats = number_lines (
    (codes "passed", stats.passed) ∷
    (codes "passed-slow", stats.passed_slow) ∷
    (codes "passed-timed-out", stats.passed_timed_out) ∷
    (codes "flaky", stats.flaky) ∷
    []
    )

-- of tests that failed, or left handles open
unfoldable pub failed_lines : RunStats → List ℕ
failed_lines stats = number_lines (
    (codes "failed", stats.failed) ∷
    (codes "failed-slow", stats.failed_slow) ∷
    (codes "failed-timed-out", stats.failed_timed_out) ∷
    (codes "leaky", stats.leaky) ∷
    (codes "leaky-failed", stats.leaky_failed) ∷
    (codes "exec-failed", stats.exec_failed) ∷
    []
    )

-- the counters in their order
unfoldable pub counter_lines : RunStats → List ℕ
counter_lines stats =
    number_line (codes "initial-run-count") stats.initial_run_count
    ++ (number_line (codes "finished-count") stats.finished_count
    ++ (script_lines stats ++ (passed_lines stats ++ (failed_lines stats
    ++ (number_line (codes "skipped") stats.skipped
    ++ number_line (codes "failed-weight") stats.failed_weight)))))

-- the exit status, the outcome, the counters, and why the run was stopped
abbrev pub end_text : RunEnd → List ℕ
end_text end =
    codes "== final ==" ++ LF ∷ number_line (codes "status") (status_of end.outcome)
    ++ codes "outcome " ++ outcome_words end.outcome ++ LF ∷ counter_lines end.stats
    ++ codes "cancel-reason" ++ TAB ∷ reason_words end.stats.cancel_reason ++ LF ∷ []

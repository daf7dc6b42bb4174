-- What a record of counters comes to.
use Rattle.std.specs.Prelude.{ℕ, ◌+◌, ◌-◌, ◌==◌, Bool, true, nat_lt, Option, if◌then◌else◌}
use Rattle.std.specs.Option.{option_map_or}
use Rattle.nextest_run_events_results.specs.Cancel.{is_inner}
use Rattle.nextest_run_events_results.specs.declared.cancel_reason.CancelReason.{CancelReason}
use Rattle.nextest_run_events_counters.specs.declared.run_stats.RunStats.{RunStats}
use Rattle.nextest_run_events_counters.specs.declared.summary.FinalRunStats.{FinalRunStats}
use Rattle.nextest_run_events_counters.specs.declared.summary.FinalRunStats.TheVariants as summed
use Rattle.nextest_run_events_counters.specs.declared.summary.RunFailureStep.{RunFailureStep}
use Rattle.nextest_run_events_counters.specs.declared.summary.RunFailureStep.TheVariants as step
use Rattle.nextest_run_events_counters.specs.declared.summary.RunStatsFailureKind.{RunStatsFailureKind}
use Rattle.nextest_run_events_counters.specs.declared.summary.RunStatsFailureKind.TheVariants as at

-- how many scripts failed, in whichever way
abbrev pub failed_setup_script_count : RunStats → ℕ
failed_setup_script_count stats = stats.setup_scripts_failed + stats.setup_scripts_exec_failed + stats.setup_scripts_timed_out

-- how many tests failed, in whichever way
abbrev pub failed_count : RunStats → ℕ
failed_count stats = stats.failed + stats.exec_failed + stats.failed_timed_out

-- at the tests: how many were to run, and how many of them did not finish
abbrev pub at_tests : RunStats → RunStatsFailureKind
at_tests stats = at.Test stats.initial_run_count (stats.initial_run_count - stats.finished_count)

-- a failure is the run's own where no reason stands, or one that only the run itself gives
abbrev pub is_own : Option CancelReason → Bool
is_own reason = option_map_or is_inner reason true

-- a failure at a place, under the reason that stands
abbrev pub failure_at : RunStats → RunStatsFailureKind → FinalRunStats
failure_at stats kind = if is_own stats.cancel_reason then summed.Failed kind else summed.Cancelled stats.cancel_reason kind

-- the first case that holds: a failing script, an unfinished script, a failing test, an unfinished
-- test, nothing finished, success
abbrev pub summary_of : RunStats → FinalRunStats
summary_of stats =
    if nat_lt 0 (failed_setup_script_count stats) then failure_at stats at.SetupScript
    else if nat_lt stats.setup_scripts_finished_count stats.setup_scripts_initial_count then summed.Cancelled stats.cancel_reason at.SetupScript
    else if nat_lt 0 (failed_count stats) then failure_at stats (at_tests stats)
    else if nat_lt stats.finished_count stats.initial_run_count then summed.Cancelled stats.cancel_reason (at_tests stats)
    else if stats.finished_count == 0 then summed.NoTestsRun
    else summed.Success

-- a place without its numbers
abbrev pub step_of : RunStatsFailureKind → RunFailureStep
step_of at.SetupScript = step.SetupScript
step_of (at.Test initial_run_count not_run) = step.Test

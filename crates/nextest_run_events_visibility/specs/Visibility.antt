-- What is shown of a finished test, when it ends and when the run ends.
use Rattle.std.specs.Prelude.{ℕ, ◌+◌, Bool, true, false, not, ◌&&◌, ◌||◌, nat_le, if◌then◌else◌, Option, None, Some}
use Rattle.nextest_config_elements_choices.specs.Display.{shown_at_once, shown_at_end}
use Rattle.nextest_config_elements_choices.specs.Levels.{rank, final_rank}
use Rattle.nextest_config_elements_choices.specs.declared.output_display.TestOutputDisplay.{TestOutputDisplay}
use Rattle.nextest_config_elements_choices.specs.declared.status_level.FinalStatusLevel.{FinalStatusLevel}
use Rattle.nextest_config_elements_choices.specs.declared.status_level.StatusLevel.{StatusLevel}
use Rattle.nextest_run_events_results.specs.Cancel.{gravity}
use Rattle.nextest_run_events_results.specs.Signals.{is_termination_failure}
use Rattle.nextest_run_events_results.specs.declared.cancel_reason.CancelReason.{CancelReason}
use Rattle.nextest_run_events_results.specs.declared.cancel_reason.CancelReason.TheVariants as why
use Rattle.nextest_run_events_results.specs.declared.result.ExecutionResultDescription.{ExecutionResultDescription}
use Rattle.nextest_run_events_visibility.specs.declared.visibility.OutputOnTestFinished.{OutputOnTestFinished}
use Rattle.nextest_run_events_visibility.specs.declared.visibility.OutputStoreFinal.TheVariants as kept
use Rattle.nextest_run_events_visibility.specs.declared.visibility.StatusLevels.{StatusLevels}

-- reasons rise by their gravity, and no reason is below all
abbrev pub weight : Option CancelReason → ℕ
weight None = 0
weight (Some reason) = gravity reason + 1

abbrev pub is_at_most_signal : Option CancelReason → Bool
is_at_most_signal reason = nat_le (weight reason) (weight (Some why.Signal))

-- an interrupt, or a second signal: the run ends with nothing said behind it
abbrev pub ends_at_once : Option CancelReason → Bool
ends_at_once (Some why.Interrupt) = true
ends_at_once (Some why.SecondSignal) = true
ends_at_once _ = false

abbrev pub is_signal : Option CancelReason → Bool
is_signal (Some why.Signal) = true
is_signal _ = false

-- the run ended what ran since enough tests failed, and by such an end the test failed
abbrev pub was_ended_by_run : Option CancelReason → ExecutionResultDescription → Bool
was_ended_by_run (Some why.TestFailureImmediate) came = is_termination_failure came
was_ended_by_run _ came = false

-- a status line is written where the level that is set is at least the test's
abbrev pub shows_line : StatusLevel → StatusLevel → Bool
shows_line set level = nat_le (rank level) (rank set)

-- the output when the test ends
abbrev pub shows_at_once : TestOutputDisplay → Option CancelReason → ExecutionResultDescription → Bool
shows_at_once display reason came = shown_at_once display && is_at_most_signal reason && not (was_ended_by_run reason came)

-- the status is kept for the end of the run
abbrev pub is_stored : TestOutputDisplay → Option CancelReason → FinalStatusLevel → FinalStatusLevel → ExecutionResultDescription → Bool
is_stored display reason set level came =
    (shown_at_end display || nat_le (final_rank level) (final_rank set)) && not (ends_at_once reason) && not (was_ended_by_run reason came)

-- the output of a status that is kept: after a signal not a second time
abbrev pub shows_output_at_end : TestOutputDisplay → Option CancelReason → Bool
shows_output_at_end display reason = shown_at_end display && not (shown_at_once display && is_signal reason)

-- all that is shown
abbrev pub visibility_of : StatusLevels → TestOutputDisplay → Option CancelReason → StatusLevel → FinalStatusLevel → ExecutionResultDescription → OutputOnTestFinished
visibility_of levels display reason level final_level came = record {
  write_status_line = shows_line levels.status_level level;
  show_immediate = shows_at_once display reason came;
  store_final = if is_stored display reason levels.final_status_level final_level came then kept.Yes (shows_output_at_end display reason) else kept.No;
}

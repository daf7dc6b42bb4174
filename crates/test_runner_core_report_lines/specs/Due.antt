-- What is due of a finished test.
use Rattle.std.specs.Prelude.{not, Option, None, Some, if◌then◌else◌}
use Rattle.nextest_config_elements_choices.specs.declared.output_display.TestOutputDisplay.{TestOutputDisplay}
use Rattle.nextest_config_elements_choices.specs.declared.status_level.FinalStatusLevel.{FinalStatusLevel}
use Rattle.nextest_config_elements_choices.specs.declared.status_level.FinalStatusLevel.TheVariants as final_levels
use Rattle.nextest_config_elements_choices.specs.declared.status_level.StatusLevel.{StatusLevel}
use Rattle.nextest_config_elements_choices.specs.declared.status_level.StatusLevel.TheVariants as levels
use Rattle.nextest_config_elements_choices.specs.declared.timeouts.FlakyResult.{FlakyResult}
use Rattle.nextest_config_elements_choices.specs.declared.timeouts.FlakyResult.TheVariants as flaky_rule
use Rattle.nextest_run_events_counters.specs.Description.{level_of_result, final_level_of_result}
use Rattle.nextest_run_events_counters.specs.Rows.{Finished}
use Rattle.nextest_run_events_results.specs.Result.{is_success}
use Rattle.nextest_run_events_results.specs.declared.cancel_reason.CancelReason.{CancelReason}
use Rattle.nextest_run_events_results.specs.declared.record.Record.{Record}
use Rattle.nextest_run_events_visibility.specs.Visibility.{visibility_of}
use Rattle.nextest_run_events_visibility.specs.declared.visibility.OutputOnTestFinished.{OutputOnTestFinished}
use Rattle.test_runner_core_run_model.specs.State.{TestState, finished_as, last_record}
use Rattle.test_runner_core_run_model.specs.declared.mark.Mark.{Mark}
use Rattle.test_runner_core_run_model.specs.declared.mark.Mark.TheVariants as marks
use Rattle.test_runner_core_report_lines.specs.declared.finished_test.FinishedTest.{FinishedTest}
use Rattle.test_runner_core_report_lines.specs.declared.shows.Shows.{Shows}

-- the finished test that is meant
abbrev pub finished_in : FinishedTest → Finished
finished_in test = record { result = test.result.now; slow = test.slow; late = test.late; flaky = test.flaky }

-- the level of a success that came late
abbrev pub late_level : FlakyResult → StatusLevel
late_level flaky_rule.Pass = levels.Retry
late_level flaky_rule.Fail = levels.Fail

abbrev pub late_final_level : FlakyResult → FinalStatusLevel
late_final_level flaky_rule.Pass = final_levels.Flaky
late_final_level flaky_rule.Fail = final_levels.Fail

-- the level of a finished test's line while tests run
abbrev pub level_of_test : Finished → StatusLevel
level_of_test test =
    if not (is_success test.result) then levels.Fail
    else if test.late then late_level test.flaky
    else level_of_result test.result

-- and at the end, where a slow test is slow before all else
abbrev pub final_level_of_test : Finished → FinalStatusLevel
final_level_of_test test =
    if not (is_success test.result) then final_levels.Fail
    else if test.late then late_final_level test.flaky
    else if test.slow then final_levels.Slow
    else final_level_of_result test.result

-- how the outputs of such a test are displayed
abbrev pub display_of : Shows → Finished → TestOutputDisplay
display_of shows test = if is_success test.result then shows.success_output else shows.failure_output

-- what is due of a test that finished under this reason
abbrev pub due_after : Shows → Option CancelReason → Finished → OutputOnTestFinished
due_after shows reason test = visibility_of shows.levels (display_of shows test) reason (level_of_test test) (final_level_of_test test) test.result

-- the reason is the one that was kept as the test finished
abbrev pub due_by : Shows → TestState → Mark → Option Record → Option OutputOnTestFinished
due_by shows test (marks.Finished reason) (Some ending) = Some (due_after shows reason (finished_as test ending))
due_by shows test _ _ = None

-- what is due of a test: nothing where it isn't finished
abbrev pub due_of : Shows → TestState → Option OutputOnTestFinished
due_of shows test = due_by shows test test.mark (last_record test.records)

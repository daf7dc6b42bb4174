-- What the contracts of the items that this crate hands on speak of.
-- how attempts end, and why a run was cancelled
pub use Rattle.nextest_run_events_results.specs.Cancel
pub use Rattle.nextest_run_events_results.specs.Described
pub use Rattle.nextest_run_events_results.specs.Result
pub use Rattle.nextest_run_events_results.specs.Signals
pub use Rattle.nextest_run_events_results.specs.Texts
-- what a process left
pub use Rattle.nextest_run_events_outputs.specs.Chain
pub use Rattle.nextest_run_events_outputs.specs.ChildError as ErrorSources
pub use Rattle.nextest_run_events_outputs.specs.Live
pub use Rattle.nextest_run_events_outputs.specs.Output
-- attempts of tests, and what is counted of them
pub use Rattle.nextest_run_events_counters.specs.Attempts
pub use Rattle.nextest_run_events_counters.specs.Counting
pub use Rattle.nextest_config_elements_choices.specs.FailWeight
pub use Rattle.nextest_run_events_counters.specs.Description
pub use Rattle.nextest_run_events_counters.specs.Rows
pub use Rattle.nextest_run_events_counters.specs.Summary
-- what a run comes to
pub use Rattle.nextest_run_events_outcomes.specs.Finished
pub use Rattle.nextest_run_events_outcomes.specs.Laws
pub use Rattle.nextest_run_events_outcomes.specs.Outcome
pub use Rattle.nextest_run_events_outcomes.specs.Progress
-- what a test or script is doing
pub use Rattle.nextest_run_events_outcomes.specs.State
pub use Rattle.nextest_run_events_outcomes.specs.Texts as UnitTexts
-- forms of JSON
pub use Rattle.nextest_run_events_json.specs.Forms
pub use Rattle.nextest_run_events_json.specs.Reading
pub use Rattle.nextest_run_events_json.specs.Calls
pub use Rattle.nextest_run_events_json.specs.Laws as JsonLaws
-- what is shown of a finished test, and the levels and displays that say so
pub use Rattle.nextest_config_elements_choices.specs.Display
pub use Rattle.nextest_config_elements_choices.specs.Levels
pub use Rattle.nextest_run_events_visibility.specs.Laws as VisibilityLaws
pub use Rattle.nextest_run_events_visibility.specs.Visibility
-- the part of an output that tells of its error
pub use Rattle.nextest_run_events_slices.specs.Laws as SliceLaws
pub use Rattle.nextest_run_events_slices.specs.Notes
pub use Rattle.nextest_run_events_slices.specs.Places
pub use Rattle.nextest_run_events_slices.specs.Slices
-- what went wrong with an attempt
pub use Rattle.nextest_run_events_errors.specs.Collected
pub use Rattle.nextest_run_events_errors.specs.Errors
pub use Rattle.nextest_run_events_errors.specs.Lists as ErrorLists
pub use Rattle.nextest_run_events_errors.specs.Texts as ErrorTexts
-- copies of events
pub use Rattle.nextest_run_events_reporting.specs.Kinds as EventCopies
pub use Rattle.nextest_run_events_reporting.specs.Parts as EventParts
-- names of groups and scripts
pub use Rattle.nextest_config_elements_identifiers.specs.Config
pub use Rattle.nextest_config_elements_identifiers.specs.Groups
pub use Rattle.nextest_config_resolution_commands.specs.Programs
-- clones of lists
pub use Rattle.nextest_text.specs.Clones
-- types
pub use Rattle.nextest_config_elements_values.specs.declared.junit.JunitFlakyFailStatus
pub use Rattle.nextest_config_elements_values.specs.declared.junit.MismatchReason
pub use Rattle.nextest_config_elements_values.specs.declared.junit.ReportSkipPolicy
pub use Rattle.nextest_config_elements_identifiers.specs.declared.test_group.TestGroup
pub use Rattle.nextest_config_elements_choices.specs.declared.fail_weight.FailWeightOutOfRange
pub use Rattle.nextest_config_elements_choices.specs.declared.timeouts.FlakyResult
pub use Rattle.nextest_config_elements_choices.specs.declared.timeouts.LeakTimeoutResult
pub use Rattle.nextest_config_elements_choices.specs.declared.timeouts.SlowTimeoutResult
pub use Rattle.nextest_config_elements_choices.specs.declared.run_mode.NextestRunMode
pub use Rattle.nextest_config_elements_choices.specs.declared.status_level.FinalStatusLevel
pub use Rattle.nextest_config_elements_choices.specs.declared.status_level.StatusLevel
pub use Rattle.nextest_config_elements_choices.specs.declared.output_display.TestOutputDisplay
pub use Rattle.nextest_run_events_results.specs.declared.cancel_reason.CancelReason
pub use Rattle.nextest_run_events_results.specs.declared.execution_result.AbortStatus
pub use Rattle.nextest_run_events_results.specs.declared.execution_result.ExecutionResult
pub use Rattle.nextest_run_events_results.specs.declared.execution_result.ExitStatus
pub use Rattle.nextest_run_events_results.specs.declared.execution_result.FailureStatus
pub use Rattle.nextest_run_events_results.specs.declared.instance.OwnedTestInstanceId
pub use Rattle.nextest_run_events_results.specs.declared.instance.TestInstanceId
pub use Rattle.nextest_run_events_results.specs.declared.result.AbortDescription
pub use Rattle.nextest_run_events_results.specs.declared.result.ExecutionResultDescription
pub use Rattle.nextest_run_events_results.specs.declared.result.FailureDescription
pub use Rattle.nextest_run_events_outputs.specs.declared.child_error.ChildErrorDescription
pub use Rattle.nextest_run_events_outputs.specs.declared.child_error.ChildStartErrorDescription
pub use Rattle.nextest_run_events_outputs.specs.declared.error_list.ErrorList
pub use Rattle.nextest_run_events_outputs.specs.declared.event_time.EventTime
pub use Rattle.nextest_run_events_outputs.specs.declared.execute_status.ErrorSummary
pub use Rattle.nextest_run_events_outputs.specs.declared.execute_status.ExecuteStatus
pub use Rattle.nextest_run_events_outputs.specs.declared.execute_status.OutputErrorSlice
pub use Rattle.nextest_run_events_outputs.specs.declared.execute_status.SetupScriptEnvMap
pub use Rattle.nextest_run_events_outputs.specs.declared.execute_status.SetupScriptExecuteStatus
pub use Rattle.nextest_run_events_outputs.specs.declared.live_error.ChildError
pub use Rattle.nextest_run_events_outputs.specs.declared.live_error.ChildFdError
pub use Rattle.nextest_run_events_outputs.specs.declared.live_error.ChildStartError
pub use Rattle.nextest_run_events_outputs.specs.declared.live_output.ChildExecutionOutput
pub use Rattle.nextest_run_events_outputs.specs.declared.live_output.ChildOutput
pub use Rattle.nextest_run_events_outputs.specs.declared.live_output.ChildSplitOutput
pub use Rattle.nextest_run_events_outputs.specs.declared.output.ChildExecutionOutputDescription
pub use Rattle.nextest_run_events_outputs.specs.declared.output.ChildOutputDescription
pub use Rattle.nextest_run_events_outputs.specs.declared.output.LiveSpec
pub use Rattle.nextest_run_events_outputs.specs.declared.retry_data.RetryData
pub use Rattle.nextest_run_events_outputs.specs.declared.serializable_error.ErrorChain
pub use Rattle.nextest_run_events_counters.specs.declared.execution_description.ExecutionDescription
pub use Rattle.nextest_run_events_counters.specs.declared.execution_statuses.EmptyStatuses
pub use Rattle.nextest_run_events_counters.specs.declared.run_stats.RunStats
pub use Rattle.nextest_run_events_counters.specs.declared.summary.FinalRunStats
pub use Rattle.nextest_run_events_counters.specs.declared.summary.RunFailureStep
pub use Rattle.nextest_run_events_counters.specs.declared.summary.RunStatsFailureKind
pub use Rattle.nextest_run_events_outcomes.specs.declared.finished_stats.RunFinishedStats
pub use Rattle.nextest_run_events_outcomes.specs.declared.outcome.RunOutcome
pub use Rattle.nextest_run_events_outcomes.specs.declared.stress_count.StressCondition
pub use Rattle.nextest_run_events_outcomes.specs.declared.stress_count.StressCount
pub use Rattle.nextest_run_events_outcomes.specs.declared.stress_count.StressIndex
pub use Rattle.nextest_run_events_outcomes.specs.declared.stress_progress.StressProgress
pub use Rattle.nextest_run_events_outcomes.specs.declared.stress_progress.StressRemaining
pub use Rattle.nextest_run_events_outcomes.specs.declared.stress_stats.StressFinalRunStats
pub use Rattle.nextest_run_events_outcomes.specs.declared.stress_stats.StressRunStats
pub use Rattle.nextest_run_events_outcomes.specs.declared.terminate.UnitTerminateMethod
pub use Rattle.nextest_run_events_outcomes.specs.declared.terminate.UnitTerminateReason
pub use Rattle.nextest_run_events_outcomes.specs.declared.terminate.UnitTerminateSignal
pub use Rattle.nextest_run_events_outcomes.specs.declared.terminate.UnitTerminatingState
pub use Rattle.nextest_run_events_outcomes.specs.declared.test_info.TestInfoResponse
pub use Rattle.nextest_run_events_outcomes.specs.declared.test_list.TestList
pub use Rattle.nextest_run_events_outcomes.specs.declared.test_list.TestsNotSeen
pub use Rattle.nextest_run_events_outcomes.specs.declared.unit_kind.UnitKind
pub use Rattle.nextest_run_events_outcomes.specs.declared.unit_state.UnitState
pub use Rattle.nextest_run_events_json.specs.declared.json_error.JsonError
pub use Rattle.nextest_run_events_visibility.specs.declared.visibility.OutputOnTestFinished
pub use Rattle.nextest_run_events_visibility.specs.declared.visibility.OutputStoreFinal
pub use Rattle.nextest_run_events_visibility.specs.declared.visibility.StatusLevels
pub use Rattle.nextest_run_events_slices.specs.declared.slices.ByteSubslice
pub use Rattle.nextest_run_events_slices.specs.declared.slices.TestOutputErrorSlice
pub use Rattle.nextest_run_events_errors.specs.declared.described.DescribedError
pub use Rattle.nextest_run_events_errors.specs.declared.described.UnitAbortDescription
pub use Rattle.nextest_run_events_errors.specs.declared.list.DescribedErrorList
pub use Rattle.nextest_run_events_errors.specs.declared.unit_error.UnitErrorDescription
pub use Rattle.nextest_run_events_reporting.specs.declared.event.ReporterEvent
pub use Rattle.nextest_run_events_reporting.specs.declared.event.TestEvent
pub use Rattle.nextest_run_events_reporting.specs.declared.info.InfoResponse
pub use Rattle.nextest_run_events_reporting.specs.declared.info.SetupScriptInfoResponse
pub use Rattle.nextest_run_events_reporting.specs.declared.kind.TestEventKind
pub use Rattle.nextest_run_events_reporting.specs.declared.slot_assignment.TestSlotAssignment

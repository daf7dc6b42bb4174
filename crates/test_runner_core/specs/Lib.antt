-- What the contracts of this crate, and of what it hands on, speak of.
pub mod Judging
pub mod Texts
pub mod Headline
pub mod Outcome
pub mod Report
pub mod Faults
pub mod Check
pub mod Laws
pub mod SomeLog
pub mod Inside
pub mod Near
-- how a run is reported
pub use Rattle.test_runner_core_reporter.specs.Parts
pub use Rattle.test_runner_core_reporter.specs.Writes
pub use Rattle.test_runner_core_reporter.specs.RunEnd
pub use Rattle.test_runner_core_reporter.specs.Opening
pub use Rattle.test_runner_core_reporter.specs.Final
pub use Rattle.test_runner_core_reporter.specs.Steps
pub use Rattle.test_runner_core_report_lines.specs.Report as TestReport
pub use Rattle.test_runner_core_report_lines.specs.Texts as TestTexts
pub use Rattle.test_runner_core_report_lines.specs.Due
pub use Rattle.test_runner_core_run_model.specs.Finishing
-- runs: plan, assignment, state, step, whole runs
pub use Rattle.test_runner_core_run_model.specs.RunPlan
pub use Rattle.test_runner_core_run_model.specs.Assignment
pub use Rattle.test_runner_core_run_model.specs.State
pub use Rattle.test_runner_core_run_model.specs.Step
pub use Rattle.test_runner_core_run_model.specs.Counters
pub use Rattle.test_runner_core_run_model.specs.Runs
pub use Rattle.test_runner_core_run_model.specs.Decisions
pub use Rattle.test_runner_core_run_model.specs.FailLimit
pub use Rattle.test_runner_core_run_model.specs.Laws as RunLaws
-- a session by names, and what it keeps
pub use Rattle.test_runner_core_session.specs.Names
pub use Rattle.test_runner_core_session.specs.Session
pub use Rattle.test_runner_core_run_state.specs.Progress
pub use Rattle.test_runner_core_run_state.specs.Statuses
-- plans, and which tests they select
pub use Rattle.test_runner_core_plan.specs.Order
pub use Rattle.test_runner_core_planning.specs.Checks
pub use Rattle.test_runner_core_planning.specs.Plan
pub use Rattle.test_runner_core_planning.specs.Laws as PlanLaws
pub use Rattle.test_runner_core_planning.specs.Filtering
pub use Rattle.test_runner_core_planning.specs.Refusals
pub use Rattle.test_runner_core_planning.specs.Texts as PlanTexts
pub use Rattle.test_runner_core_listing.specs.Listing
pub use Rattle.test_runner_core_listing.specs.Answers
pub use Rattle.test_runner_core_listing.specs.Selected
pub use Rattle.test_runner_core_settings.specs.Platforms
pub use Rattle.test_runner_core_settings.specs.Holding
pub use Rattle.test_runner_core_settings.specs.Sets
pub use Rattle.test_runner_core_settings.specs.Settings
pub use Rattle.test_runner_core_settings.specs.Laws as SettingsLaws
-- the version pass: which sources count, how it takes them, what comes of what they ask for, and
-- how a warning reads
pub use Rattle.nextest_config_resolution_sources.specs.Counting
pub use Rattle.test_runner_core_settings.specs.Sources as PassSources
pub use Rattle.test_runner_core_settings.specs.Pass
pub use Rattle.test_runner_core_settings.specs.Warnings
-- platform specs, and what is known of platforms
pub use Rattle.test_runner_core_platforms.specs.Spec as PlatformSpecs
pub use Rattle.test_runner_core_platforms.specs.Grammar as PlatformGrammar
pub use Rattle.test_runner_core_platforms.specs.Facts as PlatformFactsWords
pub use Rattle.test_runner_core_platforms.specs.Meaning as PlatformMeaning
-- inputs, workspaces and listers
pub use Rattle.test_runner_core_inputs.specs.Reading as InputsReading
pub use Rattle.test_runner_core_inputs.specs.Calls as InputsCalls
pub use Rattle.test_runner_core_inputs.specs.Shape as InputsShape
pub use Rattle.test_runner_core_inputs.specs.Faults as InputsFaults
pub use Rattle.test_runner_core_inputs.specs.Laws as InputsLaws
pub use Rattle.test_runner_core_workspace.specs.Workspace
pub use Rattle.test_runner_core_workspace.specs.Lister
-- logs, their lines and streams
pub use Rattle.test_runner_core_line_syntax.specs.Spelling
pub use Rattle.test_runner_core_line_syntax.specs.Hex
pub use Rattle.test_runner_core_line_syntax.specs.Reading as LineReading
pub use Rattle.test_runner_core_line_syntax.specs.Lent
pub use Rattle.test_runner_core_line_syntax.specs.Laws as LineLaws
pub use Rattle.test_runner_core_log_reader.specs.Items
pub use Rattle.test_runner_core_log_reader.specs.Cursor
pub use Rattle.test_runner_core_log_reader.specs.Calls
pub use Rattle.test_runner_core_log_reader.specs.Feeds
pub use Rattle.test_runner_core_streams.specs.Streams
-- results and counters
pub use Rattle.nextest_run_events_results.specs.Result
pub use Rattle.nextest_run_events_results.specs.Cancel
pub use Rattle.nextest_run_events_counters.specs.Rows
pub use Rattle.nextest_run_events_counters.specs.Summary
-- limits and types
pub use Rattle.test_runner_core_log_reader.specs.declared.limits.TheConstants as Limits
pub use Rattle.nextest_config_elements_choices.specs.FailWeight
pub use Rattle.nextest_config_elements_choices.specs.declared.fail_weight.FailWeightOutOfRange
pub use Rattle.nextest_config_elements_choices.specs.declared.timeouts.FlakyResult
pub use Rattle.nextest_config_elements_choices.specs.declared.timeouts.LeakTimeoutResult
pub use Rattle.nextest_config_elements_choices.specs.declared.max_fail.MaxFail
pub use Rattle.nextest_config_elements_choices.specs.declared.run_mode.NextestRunMode
pub use Rattle.nextest_config_elements_choices.specs.declared.timeouts.SlowTimeoutResult
pub use Rattle.nextest_config_elements_choices.specs.declared.max_fail.TerminateMode
pub use Rattle.nextest_run_events_counters.specs.declared.summary.FinalRunStats
pub use Rattle.nextest_run_events_counters.specs.declared.run_stats.RunStats
pub use Rattle.nextest_run_events_counters.specs.declared.summary.RunStatsFailureKind
pub use Rattle.nextest_run_events_results.specs.declared.result.AbortDescription
pub use Rattle.nextest_run_events_results.specs.declared.cancel_reason.CancelReason
pub use Rattle.nextest_run_events_results.specs.declared.result.ExecutionResultDescription
pub use Rattle.nextest_run_events_results.specs.declared.result.FailureDescription
pub use Rattle.nextest_run_events_results.specs.declared.instance.OwnedTestInstanceId
pub use Rattle.nextest_run_events_results.specs.declared.record.Record
pub use Rattle.nextest_run_events_results.specs.declared.record.RecordOutput
pub use Rattle.nextest_run_events_results.specs.declared.instance.TestInstanceId
pub use Rattle.nextest_config_resolution_sources.specs.declared.source.ConfigSource
pub use Rattle.nextest_config_elements_identifiers.specs.declared.source_kind.ConfigSourceKind
pub use Rattle.nextest_config_resolution_sources.specs.declared.source.ConfigSourceOutcome
pub use Rattle.test_runner_core_inputs.specs.declared.platform.FactRecord
pub use Rattle.test_runner_core_inputs.specs.declared.inputs.Inputs
pub use Rattle.test_runner_core_inputs.specs.declared.inputs_error.InputsError
pub use Rattle.test_runner_core_inputs.specs.declared.inputs_error.InputsRefusal
pub use Rattle.test_runner_core_inputs.specs.declared.platform.PlatformRecord
pub use Rattle.test_runner_core_log_reader.specs.declared.fault.LineFault
pub use Rattle.test_runner_core_log_reader.specs.declared.fault.LogFault
pub use Rattle.test_runner_core_log_reader.specs.declared.next.Next
pub use Rattle.test_runner_core_line_syntax.specs.declared.hex_digits.HexDigits
pub use Rattle.test_runner_core_line_syntax.specs.declared.hex_text.HexText
pub use Rattle.test_runner_core_line_syntax.specs.declared.lent.LentLine
pub use Rattle.test_runner_core_line_syntax.specs.declared.lent.LentOutput
pub use Rattle.test_runner_core_line_syntax.specs.declared.lent.LentRecord
pub use Rattle.test_runner_core_line_syntax.specs.declared.lent.LentStream
pub use Rattle.test_runner_core_line_syntax.specs.declared.log_line.LogLine
pub use Rattle.test_runner_core_line_syntax.specs.declared.parse_line_error.ParseLineError
pub use Rattle.test_runner_core_line_syntax.specs.declared.spelling_error.SpellingError
pub use Rattle.nextest_config_resolution_load.specs.declared.load_fault.LoadFault
pub use Rattle.nextest_config_resolution_load.specs.declared.load_fault.LoadKind
pub use Rattle.nextest_config_resolution_profiles.specs.declared.profile_error.ProfileNotFound
pub use Rattle.test_runner_core_plan.specs.declared.plan.Plan as PlanType
pub use Rattle.test_runner_core_planning.specs.declared.plan_error.PlanError
pub use Rattle.test_runner_core_planning.specs.declared.plan_fault.PlanFault
pub use Rattle.test_runner_core_plan.specs.declared.plan_settings.PlanSettings
pub use Rattle.test_runner_core_plan.specs.declared.plan.PlanTest
pub use Rattle.test_runner_core_run_state.specs.declared.start_fault.StartFault
pub use Rattle.test_runner_core_run_model.specs.declared.finished.Finished
pub use Rattle.test_runner_core_run_model.specs.declared.mark.Mark
pub use Rattle.test_runner_core_run_model.specs.declared.run_test.RunTest
pub use Rattle.test_runner_core_run_model.specs.declared.step_refusal.StepRefusal
pub use Rattle.test_runner_core_session.specs.declared.session.Fate
pub use Rattle.test_runner_core_streams.specs.declared.memory_writer.WriteFailure
pub use Rattle.test_runner_core_settings.specs.declared.pass.VersionPass
pub use Rattle.test_runner_core_settings.specs.declared.pass_error.VersionPassFault
pub use Rattle.test_runner_core_workspace.specs.declared.record.Binary
pub use Rattle.test_runner_core_workspace.specs.declared.record.BinaryKind
pub use Rattle.test_runner_core_workspace.specs.declared.record.BinaryTests
pub use Rattle.test_runner_core_workspace.specs.declared.record.BuildPlatform
pub use Rattle.test_runner_core_workspace.specs.declared.record.Link
pub use Rattle.test_runner_core_workspace.specs.declared.list_fault.ListFault
pub use Rattle.test_runner_core_workspace.specs.declared.record.Package
pub use Rattle.test_runner_core_workspace.specs.declared.workspace_error.WorkspaceError
pub use Rattle.test_runner_core_workspace.specs.declared.workspace_fault.WorkspaceFault
pub use Rattle.test_runner_core_workspace.specs.declared.record.WorkspaceRecord

-- What the contracts of the items that this crate hands on speak of.
-- levels, limits, modes, displays and flaky tests
pub use Rattle.nextest_config_elements_choices.specs.Display
pub use Rattle.nextest_config_elements_choices.specs.FailWeight
pub use Rattle.nextest_config_elements_choices.specs.Flaky
pub use Rattle.nextest_config_elements_choices.specs.Laws
pub use Rattle.nextest_config_elements_choices.specs.Levels
pub use Rattle.nextest_config_elements_choices.specs.MaxFail
pub use Rattle.nextest_config_elements_choices.specs.RunMode
-- identifiers, and the names and files of tools
pub use Rattle.nextest_config_elements_identifiers.specs.Config
pub use Rattle.nextest_config_elements_identifiers.specs.Groups
pub use Rattle.nextest_config_elements_identifiers.specs.Identifier
pub use Rattle.nextest_config_elements_identifiers.specs.Laws as IdentifierLaws
pub use Rattle.nextest_config_elements_identifiers.specs.Parts
pub use Rattle.nextest_config_elements_identifiers.specs.Tools
-- durations
pub use Rattle.nextest_config_elements_values.specs.Duration
pub use Rattle.nextest_config_elements_values.specs.DurationLaws as DurationLaws
pub use Rattle.nextest_config_elements_values.specs.Nanos
-- retries, threads, priorities, reports
pub use Rattle.nextest_config_elements_values.specs.Junit
pub use Rattle.nextest_config_elements_values.specs.Laws as PriorityLaws
pub use Rattle.nextest_config_elements_values.specs.Priority
pub use Rattle.nextest_config_elements_values.specs.Retries
pub use Rattle.nextest_config_elements_values.specs.Threads
pub use Rattle.nextest_config_elements_values.specs.Timeouts
-- reading: what a value is by its key, and where the first thing stands that is none
pub use Rattle.nextest_config_elements_toml.specs.Paths
pub use Rattle.nextest_config_elements_toml.specs.Reading
pub use Rattle.nextest_config_elements_deserialize.specs.Accepted
pub use Rattle.nextest_config_elements_deserialize.specs.FailWeights as FailWeightReadings
pub use Rattle.nextest_config_elements_deserialize.specs.Junit as JunitReadings
pub use Rattle.nextest_config_elements_deserialize.specs.Laws as ReadingLaws
pub use Rattle.nextest_config_elements_deserialize.specs.Levels as LevelReadings
pub use Rattle.nextest_config_elements_deserialize.specs.Limits
pub use Rattle.nextest_config_elements_deserialize.specs.Names
pub use Rattle.nextest_config_elements_deserialize.specs.Priority as PriorityReadings
pub use Rattle.nextest_config_elements_deserialize.specs.Retries as RetryReadings
pub use Rattle.nextest_config_elements_deserialize.specs.Threads as ThreadReadings
pub use Rattle.nextest_config_elements_deserialize.specs.Timeouts as TimeoutReadings
pub use Rattle.nextest_config_elements_deserialize.specs.Values
pub use Rattle.nextest_config_elements_deserialize.specs.Words
-- versions and features: what sources ask for, what counts, what a version is by it
pub use Rattle.nextest_version.specs.Order as VersionOrder
pub use Rattle.nextest_version.specs.Reading as VersionReading
pub use Rattle.nextest_version.specs.Same as VersionSame
pub use Rattle.nextest_config_elements_versions.specs.Demand
pub use Rattle.nextest_config_elements_versions.specs.Eval
pub use Rattle.nextest_config_elements_versions.specs.Features
pub use Rattle.nextest_config_elements_versions.specs.Laws as VersionLaws
pub use Rattle.nextest_config_elements_versions.specs.Sources
pub use Rattle.nextest_config_elements_versions.specs.Verdict
-- types
pub use Rattle.nextest_config_elements_choices.specs.declared.timeouts.FlakyResult
pub use Rattle.nextest_config_elements_choices.specs.declared.timeouts.LeakTimeoutResult
pub use Rattle.nextest_config_elements_choices.specs.declared.timeouts.SlowTimeoutResult
pub use Rattle.nextest_config_elements_choices.specs.declared.run_mode.NextestRunMode
pub use Rattle.nextest_config_elements_choices.specs.declared.status_level.FinalStatusLevel
pub use Rattle.nextest_config_elements_choices.specs.declared.status_level.StatusLevel
pub use Rattle.nextest_config_elements_choices.specs.declared.output_display.TestOutputDisplay
pub use Rattle.nextest_config_elements_choices.specs.declared.fail_weight.FailWeightOutOfRange
pub use Rattle.nextest_config_elements_choices.specs.declared.max_fail.BadText
pub use Rattle.nextest_config_elements_choices.specs.declared.max_fail.MaxFail as MaxFailType
pub use Rattle.nextest_config_elements_choices.specs.declared.max_fail.TerminateMode
pub use Rattle.nextest_config_elements_identifiers.specs.declared.invalid_identifier.InvalidIdentifier
pub use Rattle.nextest_config_elements_identifiers.specs.declared.source_kind.ConfigSourceKind
pub use Rattle.nextest_config_elements_identifiers.specs.declared.test_group.TestGroup
pub use Rattle.nextest_config_elements_identifiers.specs.declared.tool_config_file.BadToolConfig
pub use Rattle.nextest_config_elements_identifiers.specs.declared.tool_config_file.ToolConfigFile
pub use Rattle.nextest_config_elements_identifiers.specs.declared.tool_config_file.ToolConfigFileError
pub use Rattle.nextest_config_elements_values.specs.declared.config_duration.ConfigDuration
pub use Rattle.nextest_config_elements_values.specs.declared.parse.BadDuration
pub use Rattle.nextest_config_elements_values.specs.declared.junit.JunitConfig
pub use Rattle.nextest_config_elements_values.specs.declared.junit.JunitFlakyFailStatus
pub use Rattle.nextest_config_elements_values.specs.declared.junit.MismatchReason
pub use Rattle.nextest_config_elements_values.specs.declared.junit.ReportSkipPolicy
pub use Rattle.nextest_config_elements_values.specs.declared.priority.TestPriorityOutOfRange
pub use Rattle.nextest_config_elements_values.specs.declared.retries.RetryPolicy
pub use Rattle.nextest_config_elements_values.specs.declared.threads.TestGroupConfig
pub use Rattle.nextest_config_elements_values.specs.declared.threads.TestThreads
pub use Rattle.nextest_config_elements_values.specs.declared.threads.ThreadsRequired
pub use Rattle.nextest_config_elements_values.specs.declared.timeouts.GlobalTimeout
pub use Rattle.nextest_config_elements_values.specs.declared.timeouts.LeakTimeout
pub use Rattle.nextest_config_elements_values.specs.declared.timeouts.SlowTimeout
pub use Rattle.nextest_config_elements_toml.specs.declared.bad_value.BadValue
pub use Rattle.nextest_config_elements_toml.specs.declared.key_path.KeyPath
pub use Rattle.nextest_config_elements_toml.specs.declared.value_error.ValueError
pub use Rattle.nextest_config_elements_versions.specs.declared.asked_versions.AskedVersions
pub use Rattle.nextest_config_elements_versions.specs.declared.demand.VersionDemand
pub use Rattle.nextest_config_elements_versions.specs.declared.experimental.ExperimentalConfig
pub use Rattle.nextest_config_elements_versions.specs.declared.experimental.UnknownFeatures
pub use Rattle.nextest_config_elements_versions.specs.declared.feature.ConfigExperimental
pub use Rattle.nextest_config_elements_versions.specs.declared.feature.FeatureSet
pub use Rattle.nextest_config_elements_versions.specs.declared.origin.VersionOrigin
pub use Rattle.nextest_config_elements_versions.specs.declared.origin.VersionSource
pub use Rattle.nextest_config_elements_versions.specs.declared.source_fault.VersionOnlyError
pub use Rattle.nextest_config_elements_versions.specs.declared.source_fault.VersionSourceFault
pub use Rattle.nextest_config_elements_versions.specs.declared.source_fault.VersionSourceReason
pub use Rattle.nextest_config_elements_versions.specs.declared.version_config.NextestVersionConfig
pub use Rattle.nextest_config_elements_versions.specs.declared.version_eval.NextestVersionEval
pub use Rattle.nextest_config_elements_versions.specs.declared.version_only.VersionOnlyConfig
pub use Rattle.nextest_config_elements_versions.specs.declared.version_req.NextestVersionReq
pub use Rattle.nextest_version.specs.declared.plain_version.VersionError

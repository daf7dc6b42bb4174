-- The settings of a test.
use Rattle.std.specs.Prelude.{◌≡◌}
use Rattle.std.specs.Option.{option_copied}
use Rattle.nextest_config_elements_identifiers.specs.declared.test_group.TestGroup.{TestGroup}
use Rattle.nextest_config_elements_identifiers.specs.declared.test_group.TestGroup.TheVariants as group
use Rattle.nextest_config_elements_choices.specs.declared.run_mode.NextestRunMode.{NextestRunMode}
use Rattle.nextest_config_resolution_keys.specs.Junit as junit_key
use Rattle.nextest_config_resolution_keys.specs.Modes.{slow_timeout_by, slow_timeout_or}
use Rattle.nextest_config_resolution_keys.specs.Output as output_key
use Rattle.nextest_config_resolution_keys.specs.Test as test_key
use Rattle.nextest_config_resolution_keys.specs.Command as command_key
use Rattle.nextest_config_resolution_keys.specs.Report as report_key
use Rattle.nextest_config_resolution_overrides.specs.RuleKeys as rule
use Rattle.nextest_config_resolution_overrides.specs.Schedule as schedule_key
use Rattle.nextest_config_resolution_settings.specs.Layers.{Layers}
use Rattle.nextest_config_resolution_settings.specs.Nearest.{Source}
use Rattle.nextest_config_resolution_settings.specs.Tracked.{IsCommandSetting, IsReportSetting, IsRuleSetting, IsTestSetting}
use Rattle.nextest_config_resolution_settings.specs.Tracking.{HaveOneSource}
use Rattle.nextest_config_resolution_settings.specs.Wrappers.{IsTrackedWrapper, run_wrapper}
use Rattle.nextest_config_resolution_settings.specs.declared.test_settings.TestGroupRef.{TestGroupRef}
use Rattle.nextest_config_resolution_settings.specs.declared.test_settings.TestGroupRef.TheVariants as group_ref
use Rattle.nextest_config_resolution_settings.specs.declared.test_settings.TestSettings.{TestSettings}

-- a group that is lent
abbrev pub group_of : TestGroupRef → TestGroup
group_of group_ref.Global = group.Global
group_of (group_ref.Custom it) = group.Custom it.now

-- each is what the rules that hold on a test and the chain of its profile have, with what is kept
-- of where it is taken from; overrides alone set a priority and a group, and script rules alone a
-- wrapper script
pub record AreSettings {S : Type 0} (Tells : S → Source → Type 0) (mode : NextestRunMode) (layers : Layers)
    (settings : TestSettings S) : Type 0 where
  pub priority : IsRuleSetting Tells layers rule.priority_of schedule_key.priority_fallback settings.priority
  pub threads_required : IsTestSetting Tells layers test_key.threads_required_of test_key.threads_required_fallback settings.threads_required
  pub run_wrapper : IsTrackedWrapper Tells layers.wrappers run_wrapper layers.scripts
      (option_copied settings.run_wrapper.0, settings.run_wrapper.1)
  pub run_extra_args : IsCommandSetting Tells layers command_key.run_extra_args_of command_key.run_extra_args_fallback
      (settings.run_extra_args.0.now, settings.run_extra_args.1)
  pub retries : IsTestSetting Tells layers test_key.retries_of test_key.retries_fallback settings.retries
  pub flaky_result : IsTestSetting Tells layers test_key.flaky_result_of test_key.flaky_result_fallback settings.flaky_result
  pub fail_weight : IsTestSetting Tells layers test_key.fail_weight_of test_key.fail_weight_fallback settings.fail_weight
  pub slow_timeout : IsTestSetting Tells layers (slow_timeout_by mode) (slow_timeout_or mode) settings.slow_timeout
  pub leak_timeout : IsTestSetting Tells layers test_key.leak_timeout_of test_key.leak_timeout_fallback settings.leak_timeout
  pub test_group : IsRuleSetting Tells layers rule.test_group_of schedule_key.test_group_fallback
      (group_of settings.test_group.0, settings.test_group.1)
  pub success_output : IsReportSetting Tells layers report_key.success_output_of output_key.success_output_fallback
      settings.success_output
  pub failure_output : IsReportSetting Tells layers report_key.failure_output_of output_key.failure_output_fallback
      settings.failure_output
  pub junit_store_success_output : IsReportSetting Tells layers report_key.junit_store_success_output_of junit_key.junit_store_success_output_fallback
      settings.junit_store_success_output
  pub junit_store_failure_output : IsReportSetting Tells layers report_key.junit_store_failure_output_of junit_key.junit_store_failure_output_fallback
      settings.junit_store_failure_output
  pub junit_report_skipped : IsReportSetting Tells layers report_key.junit_report_skipped_of junit_key.junit_report_skipped_fallback
      settings.junit_report_skipped
  pub junit_flaky_fail_status : IsReportSetting Tells layers report_key.junit_flaky_fail_status_of junit_key.junit_flaky_fail_status_fallback
      settings.junit_flaky_fail_status

-- each setting of the one is that of the other
pub record AreSame {S T : Type 0} (one : TestSettings S) (other : TestSettings T) : Type 0 where
  pub priority : one.priority.0 ≡ other.priority.0
  pub threads_required : one.threads_required.0 ≡ other.threads_required.0
  pub run_wrapper : option_copied one.run_wrapper.0 ≡ option_copied other.run_wrapper.0
  pub run_extra_args : one.run_extra_args.0.now ≡ other.run_extra_args.0.now
  pub retries : one.retries.0 ≡ other.retries.0
  pub flaky_result : one.flaky_result.0 ≡ other.flaky_result.0
  pub fail_weight : one.fail_weight.0 ≡ other.fail_weight.0
  pub slow_timeout : one.slow_timeout.0 ≡ other.slow_timeout.0
  pub leak_timeout : one.leak_timeout.0 ≡ other.leak_timeout.0
  pub test_group : group_of one.test_group.0 ≡ group_of other.test_group.0
  pub success_output : one.success_output.0 ≡ other.success_output.0
  pub failure_output : one.failure_output.0 ≡ other.failure_output.0
  pub junit_store_success_output : one.junit_store_success_output.0 ≡ other.junit_store_success_output.0
  pub junit_store_failure_output : one.junit_store_failure_output.0 ≡ other.junit_store_failure_output.0
  pub junit_report_skipped : one.junit_report_skipped.0 ≡ other.junit_report_skipped.0
  pub junit_flaky_fail_status : one.junit_flaky_fail_status.0 ≡ other.junit_flaky_fail_status.0

-- and what is kept of each is of one source
pub record HaveSameSources {S : Type 0} (Tells : S → Source → Type 0) (one other : TestSettings S) : Type 0 where
  pub priority : HaveOneSource Tells one.priority.1 other.priority.1
  pub threads_required : HaveOneSource Tells one.threads_required.1 other.threads_required.1
  pub run_wrapper : HaveOneSource Tells one.run_wrapper.1 other.run_wrapper.1
  pub run_extra_args : HaveOneSource Tells one.run_extra_args.1 other.run_extra_args.1
  pub retries : HaveOneSource Tells one.retries.1 other.retries.1
  pub flaky_result : HaveOneSource Tells one.flaky_result.1 other.flaky_result.1
  pub fail_weight : HaveOneSource Tells one.fail_weight.1 other.fail_weight.1
  pub slow_timeout : HaveOneSource Tells one.slow_timeout.1 other.slow_timeout.1
  pub leak_timeout : HaveOneSource Tells one.leak_timeout.1 other.leak_timeout.1
  pub test_group : HaveOneSource Tells one.test_group.1 other.test_group.1
  pub success_output : HaveOneSource Tells one.success_output.1 other.success_output.1
  pub failure_output : HaveOneSource Tells one.failure_output.1 other.failure_output.1
  pub junit_store_success_output : HaveOneSource Tells one.junit_store_success_output.1 other.junit_store_success_output.1
  pub junit_store_failure_output : HaveOneSource Tells one.junit_store_failure_output.1 other.junit_store_failure_output.1
  pub junit_report_skipped : HaveOneSource Tells one.junit_report_skipped.1 other.junit_report_skipped.1
  pub junit_flaky_fail_status : HaveOneSource Tells one.junit_flaky_fail_status.1 other.junit_flaky_fail_status.1

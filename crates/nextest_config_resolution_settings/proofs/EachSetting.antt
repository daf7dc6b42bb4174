-- There is a value of each setting of a test, and one; and it is taken from one place.
use Rattle.std.proofs.Common.{sym, subst}
use Rattle.nextest_config_elements_identifiers.specs.declared.test_group.TestGroup.{TestGroup}
use Rattle.nextest_config_resolution_keys.specs.Modes.{slow_timeout_by, slow_timeout_or}
use Rattle.nextest_config_resolution_settings.specs.Laws.{SomeSettings, SameSettings, SameSources}
use Rattle.nextest_config_resolution_settings.specs.Nearest.{Source}
use Rattle.nextest_config_resolution_settings.specs.Tracked.{IsRuleSetting}
use Rattle.nextest_config_resolution_settings.specs.Tracking.{KeepsSome}
use Rattle.nextest_config_resolution_settings.specs.Wrappers.{run_wrapper}
use Rattle.nextest_config_resolution_keys.specs.Junit as junit_key
use Rattle.nextest_config_resolution_keys.specs.Output as output_key
use Rattle.nextest_config_resolution_keys.specs.Test as test_key
use Rattle.nextest_config_resolution_keys.specs.Command as command_key
use Rattle.nextest_config_resolution_keys.specs.Report as report_key
use Rattle.nextest_config_resolution_overrides.specs.RuleKeys as rule
use Rattle.nextest_config_resolution_overrides.specs.Schedule as schedule_key
use Rattle.nextest_config_resolution_settings.proofs.Some.{some_lent, some_of_command, some_of_report, some_of_rules, some_of_test, some_wrapper}
use Rattle.nextest_config_resolution_settings.proofs.Sourced.{one_wrapper, same_source, same_value}

pub some_settings : {S : Type 0} (Tells : S → Source → Type 0) → KeepsSome Tells → SomeSettings Tells
some_settings Tells keeps mode layers =
    let priority = some_of_rules Tells keeps layers rule.priority_of schedule_key.priority_fallback in
    let threads_required = some_of_test Tells keeps layers test_key.threads_required_of test_key.threads_required_fallback in
    let run_wrapper = some_wrapper Tells keeps layers.wrappers run_wrapper layers.scripts in
    let run_extra_args = some_of_command Tells keeps layers command_key.run_extra_args_of command_key.run_extra_args_fallback in
    let retries = some_of_test Tells keeps layers test_key.retries_of test_key.retries_fallback in
    let flaky_result = some_of_test Tells keeps layers test_key.flaky_result_of test_key.flaky_result_fallback in
    let fail_weight = some_of_test Tells keeps layers test_key.fail_weight_of test_key.fail_weight_fallback in
    let slow_timeout = some_of_test Tells keeps layers (slow_timeout_by mode) (slow_timeout_or mode) in
    let leak_timeout = some_of_test Tells keeps layers test_key.leak_timeout_of test_key.leak_timeout_fallback in
    let test_group = some_of_rules Tells keeps layers rule.test_group_of schedule_key.test_group_fallback in
    let lent = some_lent test_group.0.0 in
    let success_output = some_of_report Tells keeps layers report_key.success_output_of output_key.success_output_fallback in
    let failure_output = some_of_report Tells keeps layers report_key.failure_output_of output_key.failure_output_fallback in
    let junit_store_success_output = some_of_report Tells keeps layers report_key.junit_store_success_output_of junit_key.junit_store_success_output_fallback in
    let junit_store_failure_output = some_of_report Tells keeps layers report_key.junit_store_failure_output_of junit_key.junit_store_failure_output_fallback in
    let junit_report_skipped = some_of_report Tells keeps layers report_key.junit_report_skipped_of junit_key.junit_report_skipped_fallback in
    let junit_flaky_fail_status = some_of_report Tells keeps layers report_key.junit_flaky_fail_status_of junit_key.junit_flaky_fail_status_fallback in (
      record {
        priority = priority.0;
        threads_required = threads_required.0;
        run_wrapper = run_wrapper.0;
        run_extra_args = (record { ref_ptr = (0, 0); now = run_extra_args.0.0 }, run_extra_args.0.1);
        retries = retries.0;
        flaky_result = flaky_result.0;
        fail_weight = fail_weight.0;
        slow_timeout = slow_timeout.0;
        leak_timeout = leak_timeout.0;
        test_group = (lent.0, test_group.0.1);
        success_output = success_output.0;
        failure_output = failure_output.0;
        junit_store_success_output = junit_store_success_output.0;
        junit_store_failure_output = junit_store_failure_output.0;
        junit_report_skipped = junit_report_skipped.0;
        junit_flaky_fail_status = junit_flaky_fail_status.0;
      },
      record {
        priority = priority.1;
        threads_required = threads_required.1;
        run_wrapper = run_wrapper.1;
        run_extra_args = run_extra_args.1;
        retries = retries.1;
        flaky_result = flaky_result.1;
        fail_weight = fail_weight.1;
        slow_timeout = slow_timeout.1;
        leak_timeout = leak_timeout.1;
        test_group = subst (λ (it : TestGroup). IsRuleSetting Tells layers rule.test_group_of schedule_key.test_group_fallback (it, test_group.0.1)) (sym lent.1) test_group.1;
        success_output = success_output.1;
        failure_output = failure_output.1;
        junit_store_success_output = junit_store_success_output.1;
        junit_store_failure_output = junit_store_failure_output.1;
        junit_report_skipped = junit_report_skipped.1;
        junit_flaky_fail_status = junit_flaky_fail_status.1;
      },
    )

pub same_settings : {S T : Type 0} (Tells : S → Source → Type 0) (Also : T → Source → Type 0) → SameSettings Tells Also
same_settings Tells Also mode layers one other a b = record {
  priority = same_value a.priority b.priority;
  threads_required = same_value a.threads_required b.threads_required;
  run_wrapper = (one_wrapper layers.wrappers run_wrapper layers.scripts a.run_wrapper.is b.run_wrapper.is).0;
  run_extra_args = same_value a.run_extra_args b.run_extra_args;
  retries = same_value a.retries b.retries;
  flaky_result = same_value a.flaky_result b.flaky_result;
  fail_weight = same_value a.fail_weight b.fail_weight;
  slow_timeout = same_value a.slow_timeout b.slow_timeout;
  leak_timeout = same_value a.leak_timeout b.leak_timeout;
  test_group = same_value a.test_group b.test_group;
  success_output = same_value a.success_output b.success_output;
  failure_output = same_value a.failure_output b.failure_output;
  junit_store_success_output = same_value a.junit_store_success_output b.junit_store_success_output;
  junit_store_failure_output = same_value a.junit_store_failure_output b.junit_store_failure_output;
  junit_report_skipped = same_value a.junit_report_skipped b.junit_report_skipped;
  junit_flaky_fail_status = same_value a.junit_flaky_fail_status b.junit_flaky_fail_status;
}

pub same_sources : {S : Type 0} (Tells : S → Source → Type 0) → SameSources Tells
same_sources Tells mode layers one other a b = record {
  priority = same_source a.priority b.priority;
  threads_required = same_source a.threads_required b.threads_required;
  run_wrapper =
      let same = (one_wrapper layers.wrappers run_wrapper layers.scripts a.run_wrapper.is b.run_wrapper.is).1 in
      (b.run_wrapper.from, subst (λ from. Tells one.run_wrapper.1 from) same a.run_wrapper.kept, b.run_wrapper.kept);
  run_extra_args = same_source a.run_extra_args b.run_extra_args;
  retries = same_source a.retries b.retries;
  flaky_result = same_source a.flaky_result b.flaky_result;
  fail_weight = same_source a.fail_weight b.fail_weight;
  slow_timeout = same_source a.slow_timeout b.slow_timeout;
  leak_timeout = same_source a.leak_timeout b.leak_timeout;
  test_group = same_source a.test_group b.test_group;
  success_output = same_source a.success_output b.success_output;
  failure_output = same_source a.failure_output b.failure_output;
  junit_store_success_output = same_source a.junit_store_success_output b.junit_store_success_output;
  junit_store_failure_output = same_source a.junit_store_failure_output b.junit_store_failure_output;
  junit_report_skipped = same_source a.junit_report_skipped b.junit_report_skipped;
  junit_flaky_fail_status = same_source a.junit_flaky_fail_status b.junit_flaky_fail_status;
}

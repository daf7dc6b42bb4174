-- The keys in the table `junit`.
use Rattle.std.specs.Prelude.{ℕ, Bool, false, true, List, [], ◌∷◌, codes}
use Rattle.toml.specs.Data.{as_str}
use Rattle.nextest_config_elements_toml.specs.Reading.{leaf}
use Rattle.nextest_config_elements_deserialize.specs.Junit.{junit_flaky_fail_status_in, report_skip_policy_in}
use Rattle.nextest_config_elements_deserialize.specs.Values.{truth}
use Rattle.nextest_config_elements_values.specs.declared.junit.JunitFlakyFailStatus.{JunitFlakyFailStatus}
use Rattle.nextest_config_elements_values.specs.declared.junit.ReportSkipPolicy.{ReportSkipPolicy}
use Rattle.nextest_config_resolution_keys.specs.Keys.{Key}
use Rattle.nextest_config_elements_values.specs.declared.junit.JunitFlakyFailStatus.TheVariants as status
use Rattle.nextest_config_elements_values.specs.declared.junit.ReportSkipPolicy.TheVariants as skipped

-- `junit.flaky-fail-status`: how a test is reported that fails since it is flaky
abbrev pub junit_flaky_fail_status : Key JunitFlakyFailStatus
junit_flaky_fail_status = record { path = codes "junit" ∷ codes "flaky-fail-status" ∷ []; reading = junit_flaky_fail_status_in }

-- where nothing sets it: as a failure
abbrev pub junit_flaky_fail_status_fallback : JunitFlakyFailStatus
junit_flaky_fail_status_fallback = status.Failure

-- `junit.path`: the file of the report
abbrev pub junit_path : Key (List ℕ)
junit_path = record { path = codes "junit" ∷ codes "path" ∷ []; reading = leaf as_str }

-- `junit.report-name`: the name that stands in the report
abbrev pub junit_report_name : Key (List ℕ)
junit_report_name = record { path = codes "junit" ∷ codes "report-name" ∷ []; reading = leaf as_str }

-- where nothing sets it: `nextest-run`
abbrev pub junit_report_name_fallback : List ℕ
junit_report_name_fallback = codes "nextest-run"

-- `junit.report-skipped`: which skipped tests are reported
abbrev pub junit_report_skipped : Key ReportSkipPolicy
junit_report_skipped = record { path = codes "junit" ∷ codes "report-skipped" ∷ []; reading = report_skip_policy_in }

-- where nothing sets it: none
abbrev pub junit_report_skipped_fallback : ReportSkipPolicy
junit_report_skipped_fallback = skipped.None

-- `junit.store-failure-output`: whether the report has the outputs of tests that fail
abbrev pub junit_store_failure_output : Key Bool
junit_store_failure_output = record { path = codes "junit" ∷ codes "store-failure-output" ∷ []; reading = leaf truth }

-- where nothing sets it: it has
abbrev pub junit_store_failure_output_fallback : Bool
junit_store_failure_output_fallback = true

-- `junit.store-success-output`: whether the report has the outputs of tests that pass
abbrev pub junit_store_success_output : Key Bool
junit_store_success_output = record { path = codes "junit" ∷ codes "store-success-output" ∷ []; reading = leaf truth }

-- where nothing sets it: it has not
abbrev pub junit_store_success_output_fallback : Bool
junit_store_success_output_fallback = false

-- What a JUnit report has of tests that are skipped or flaky: a word each.
use Rattle.std.specs.Prelude.{[], ◌∷◌, codes, Option}
use Rattle.toml.specs.Data.{Data}
use Rattle.nextest_config_elements_values.specs.declared.junit.JunitFlakyFailStatus.{JunitFlakyFailStatus}
use Rattle.nextest_config_elements_values.specs.declared.junit.JunitFlakyFailStatus.TheVariants as status
use Rattle.nextest_config_elements_values.specs.declared.junit.ReportSkipPolicy.{ReportSkipPolicy}
use Rattle.nextest_config_elements_values.specs.declared.junit.ReportSkipPolicy.TheVariants as skipped
use Rattle.nextest_config_elements_toml.specs.Reading.{Reading, leaf}
use Rattle.nextest_config_elements_deserialize.specs.Words.{one_of}

-- which skipped tests are reported
abbrev pub report_skip_policy : Data → Option ReportSkipPolicy
report_skip_policy = one_of (
    (codes "none", skipped.None) ∷ (codes "ignored", skipped.Ignored) ∷ (codes "all", skipped.All) ∷ [])

-- how it is read which skipped tests are reported
abbrev pub report_skip_policy_in : Data → Reading ReportSkipPolicy
report_skip_policy_in = leaf report_skip_policy

-- how a test is reported that fails since it is flaky
abbrev pub flaky_fail_status : Data → Option JunitFlakyFailStatus
flaky_fail_status = one_of ((codes "failure", status.Failure) ∷ (codes "success", status.Success) ∷ [])

-- how it is read how such a test is reported
abbrev pub junit_flaky_fail_status_in : Data → Reading JunitFlakyFailStatus
junit_flaky_fail_status_in = leaf flaky_fail_status

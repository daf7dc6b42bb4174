-- What a JUnit report has.
use Rattle.std.specs.Prelude.{Bool, true, false}
use Rattle.nextest_config_elements_values.specs.declared.junit.MismatchReason.{MismatchReason}
use Rattle.nextest_config_elements_values.specs.declared.junit.MismatchReason.TheVariants as reason
use Rattle.nextest_config_elements_values.specs.declared.junit.ReportSkipPolicy.{ReportSkipPolicy}
use Rattle.nextest_config_elements_values.specs.declared.junit.ReportSkipPolicy.TheVariants as policy

-- a test is skipped since it is marked as ignored
abbrev pub is_ignored : MismatchReason → Bool
is_ignored reason.Ignored = true
is_ignored _ = false

-- a test that is skipped for a reason is reported
abbrev pub is_reported : ReportSkipPolicy → MismatchReason → Bool
is_reported policy.None why = false
is_reported policy.Ignored why = is_ignored why
is_reported policy.All why = true

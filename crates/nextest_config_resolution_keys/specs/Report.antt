-- The keys that tell how a test is shown and reported.
use Rattle.std.specs.Prelude.{◌≡◌, Bool, List, [], ◌∷◌, Option, None, Some, Ok}
use Rattle.std.proofs.Common.{refl, subst}
use Rattle.toml.specs.Data.{Members}
use Rattle.nextest_config_elements_choices.specs.declared.output_display.TestOutputDisplay.{TestOutputDisplay}
use Rattle.nextest_config_elements_values.specs.declared.junit.JunitFlakyFailStatus.{JunitFlakyFailStatus}
use Rattle.nextest_config_elements_values.specs.declared.junit.ReportSkipPolicy.{ReportSkipPolicy}
use Rattle.nextest_config_elements_toml.specs.Reading.{Reading}
use Rattle.nextest_config_resolution_keys.specs.Junit.{junit_flaky_fail_status, junit_flaky_fail_status_fallback, junit_report_skipped, junit_report_skipped_fallback, junit_store_failure_output, junit_store_failure_output_fallback, junit_store_success_output, junit_store_success_output_fallback}
use Rattle.nextest_config_resolution_keys.specs.Keys.{value_of}
use Rattle.nextest_config_resolution_keys.specs.Output.{failure_output, failure_output_fallback, success_output, success_output_fallback}
use Rattle.nextest_config_resolution_keys.specs.Listed.{joined_parts, read_of}
use Rattle.nextest_config_resolution_keys.specs.Rows.{Row, both, made_of, nothing, row_of}
use Rattle.nextest_config_resolution_keys.specs.declared.report.ReportValues.{ReportValues}

-- ---- how a test is shown and reported

abbrev pub report_rows : List Row
report_rows = row_of failure_output ∷ row_of junit_flaky_fail_status ∷ row_of junit_report_skipped ∷ row_of junit_store_failure_output ∷ row_of junit_store_success_output ∷ row_of success_output ∷ []

-- their values as a tuple, and by their names
abbrev pub ReportTuple : Type 0
ReportTuple = Option TestOutputDisplay × (Option JunitFlakyFailStatus × (Option ReportSkipPolicy × (Option Bool × (Option Bool × (Option TestOutputDisplay × Unit {0})))))

abbrev pub report_values : ReportTuple → ReportValues
report_values it = record {
  failure_output = it.0;
  junit_flaky_fail_status = it.1.0;
  junit_report_skipped = it.1.1.0;
  junit_store_failure_output = it.1.1.1.0;
  junit_store_success_output = it.1.1.1.1.0;
  success_output = it.1.1.1.1.1.0;
}

-- what a table says of them: refused for the first place, by the bytes of the keys, at which one of
-- the keys refuses it
abbrev pub report_tuple_in : Members → Reading ReportTuple
report_tuple_in = both (value_of failure_output) (both (value_of junit_flaky_fail_status) (both (value_of junit_report_skipped) (both (value_of junit_store_failure_output) (both (value_of junit_store_success_output) (both (value_of success_output) nothing)))))

abbrev pub report_in : Members → Reading ReportValues
report_in given = made_of report_values (report_tuple_in given)

-- each key reads a table as its value
pub record IsReport (given : Members) (it : ReportValues) : Type 0 where
  pub failure_output : value_of failure_output given ≡ Ok it.failure_output
  pub junit_flaky_fail_status : value_of junit_flaky_fail_status given ≡ Ok it.junit_flaky_fail_status
  pub junit_report_skipped : value_of junit_report_skipped given ≡ Ok it.junit_report_skipped
  pub junit_store_failure_output : value_of junit_store_failure_output given ≡ Ok it.junit_store_failure_output
  pub junit_store_success_output : value_of junit_store_success_output given ≡ Ok it.junit_store_success_output
  pub success_output : value_of success_output given ≡ Ok it.success_output

-- what they have where nothing sets them
abbrev pub report_fallbacks : ReportValues
report_fallbacks = record {
  failure_output = Some failure_output_fallback;
  junit_flaky_fail_status = Some junit_flaky_fail_status_fallback;
  junit_report_skipped = Some junit_report_skipped_fallback;
  junit_store_failure_output = Some junit_store_failure_output_fallback;
  junit_store_success_output = Some junit_store_success_output_fallback;
  success_output = Some success_output_fallback;
}

-- where nothing is set
abbrev pub report_unset : ReportValues
report_unset = report_values (None, (None, (None, (None, (None, (None, tt))))))

abbrev pub failure_output_of : ReportValues → Option TestOutputDisplay
failure_output_of it = it.failure_output

abbrev pub junit_flaky_fail_status_of : ReportValues → Option JunitFlakyFailStatus
junit_flaky_fail_status_of it = it.junit_flaky_fail_status

abbrev pub junit_report_skipped_of : ReportValues → Option ReportSkipPolicy
junit_report_skipped_of it = it.junit_report_skipped

abbrev pub junit_store_failure_output_of : ReportValues → Option Bool
junit_store_failure_output_of it = it.junit_store_failure_output

abbrev pub junit_store_success_output_of : ReportValues → Option Bool
junit_store_success_output_of it = it.junit_store_success_output

abbrev pub success_output_of : ReportValues → Option TestOutputDisplay
success_output_of it = it.success_output

-- ---- each key by itself

report_tuple : (given : Members) (tuple : ReportTuple) → report_tuple_in given ≡ Ok tuple → IsReport given (report_values tuple)
report_tuple given tuple is =
    let at_0 = joined_parts _ _ tuple is in
    let at_1 = joined_parts _ _ tuple.1 at_0.1 in
    let at_2 = joined_parts _ _ tuple.1.1 at_1.1 in
    let at_3 = joined_parts _ _ tuple.1.1.1 at_2.1 in
    let at_4 = joined_parts _ _ tuple.1.1.1.1 at_3.1 in
    let at_5 = joined_parts _ _ tuple.1.1.1.1.1 at_4.1 in
    record { failure_output = at_0.0; junit_flaky_fail_status = at_1.0; junit_report_skipped = at_2.0; junit_store_failure_output = at_3.0; junit_store_success_output = at_4.0; success_output = at_5.0 }

pub report_read : (given : Members) (it : ReportValues) → report_in given ≡ Ok it → IsReport given it
report_read given it is = let made = read_of report_values (report_tuple_in given) it is in subst (IsReport given) made.is (report_tuple given made.values made.reads)

pub report_made : (given : Members) (it : ReportValues) → IsReport given it → report_tuple_in given ≡ Ok (it.failure_output, (it.junit_flaky_fail_status, (it.junit_report_skipped, (it.junit_store_failure_output, (it.junit_store_success_output, (it.success_output, tt))))))
report_made given it is = rw (is.failure_output, is.junit_flaky_fail_status, is.junit_report_skipped, is.junit_store_failure_output, is.junit_store_success_output, is.success_output) refl

-- What a finished script and a finished test count as: the rows of the counters.
use Rattle.std.specs.Prelude.{Bool, true, false, not, ◌&&◌, ◌||◌}
use Rattle.nextest_config_elements_choices.specs.declared.timeouts.FlakyResult as flaky_rule
use Rattle.nextest_run_events_results.specs.Result.{is_success, passes_with_leak}
use Rattle.nextest_run_events_results.specs.declared.result.ExecutionResultDescription.{ExecutionResultDescription}
use Rattle.nextest_run_events_results.specs.declared.result.ExecutionResultDescription.TheVariants as ended

-- the kinds of result, each with how it is judged

abbrev pub is_leak_pass : ExecutionResultDescription → Bool
is_leak_pass ended.Pass = false
is_leak_pass (ended.Leak judged) = passes_with_leak judged
is_leak_pass (ended.Fail failure leaked) = false
is_leak_pass ended.ExecFail = false
is_leak_pass (ended.Timeout judged) = false

abbrev pub is_leak_fail : ExecutionResultDescription → Bool
is_leak_fail ended.Pass = false
is_leak_fail (ended.Leak judged) = not (passes_with_leak judged)
is_leak_fail (ended.Fail failure leaked) = false
is_leak_fail ended.ExecFail = false
is_leak_fail (ended.Timeout judged) = false

abbrev pub is_fail : ExecutionResultDescription → Bool
is_fail ended.Pass = false
is_fail (ended.Leak judged) = false
is_fail (ended.Fail failure leaked) = true
is_fail ended.ExecFail = false
is_fail (ended.Timeout judged) = false

abbrev pub is_exec_fail : ExecutionResultDescription → Bool
is_exec_fail ended.Pass = false
is_exec_fail (ended.Leak judged) = false
is_exec_fail (ended.Fail failure leaked) = false
is_exec_fail ended.ExecFail = true
is_exec_fail (ended.Timeout judged) = false

abbrev pub is_timeout : ExecutionResultDescription → Bool
is_timeout ended.Pass = false
is_timeout (ended.Leak judged) = false
is_timeout (ended.Fail failure leaked) = false
is_timeout ended.ExecFail = false
is_timeout (ended.Timeout judged) = true

-- a finished script by its result: of these four one holds, and a timeout is never a pass

abbrev pub script_passed : ExecutionResultDescription → Bool
script_passed result = is_success result && not (is_timeout result)

abbrev pub script_failed : ExecutionResultDescription → Bool
script_failed result = is_fail result || is_leak_fail result

abbrev pub script_exec_failed : ExecutionResultDescription → Bool
script_exec_failed = is_exec_fail

abbrev pub script_timed_out : ExecutionResultDescription → Bool
script_timed_out = is_timeout

-- a script that counts as failing
abbrev pub fails_script : ExecutionResultDescription → Bool
fails_script result = script_failed result || script_exec_failed result || script_timed_out result

-- a finished test: the result and slowness of its last attempt, whether it is late, which means
-- that it took more than one attempt, and its flaky rule
pub record Finished : Type 0 where
  pub result : ExecutionResultDescription
  pub slow : Bool
  pub late : Bool
  pub flaky : flaky_rule.FlakyResult

abbrev pub forbids_late : flaky_rule.FlakyResult → Bool
forbids_late flaky_rule.TheVariants.Fail = true
forbids_late flaky_rule.TheVariants.Pass = false

-- it succeeded late against its flaky rule
abbrev pub is_late_failure : Finished → Bool
is_late_failure test = is_success test.result && test.late && forbids_late test.flaky

abbrev pub is_passed : Finished → Bool
is_passed test = is_success test.result && not (is_late_failure test)

abbrev pub passed_slow : Finished → Bool
passed_slow test = is_passed test && not (is_timeout test.result) && test.slow

abbrev pub passed_timed_out : Finished → Bool
passed_timed_out test = is_passed test && is_timeout test.result

abbrev pub flaky : Finished → Bool
flaky test = is_passed test && test.late

abbrev pub is_failed : Finished → Bool
is_failed test = is_late_failure test || is_leak_fail test.result || is_fail test.result

abbrev pub failed_slow : Finished → Bool
failed_slow test = is_failed test && test.slow

abbrev pub failed_timed_out : Finished → Bool
failed_timed_out test = is_timeout test.result && not (is_success test.result)

abbrev pub leaky : Finished → Bool
leaky test = is_leak_pass test.result

abbrev pub leaky_failed : Finished → Bool
leaky_failed test = is_leak_fail test.result

abbrev pub exec_failed : Finished → Bool
exec_failed test = is_exec_fail test.result

-- a test that counts as failing
abbrev pub fails_test : Finished → Bool
fails_test test = is_failed test || exec_failed test || failed_timed_out test

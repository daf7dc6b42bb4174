-- Which results are a success.
use Rattle.std.specs.Prelude.{Bool, true, false}
use Rattle.nextest_config_elements_choices.specs.declared.timeouts.LeakTimeoutResult as leak_judged
use Rattle.nextest_config_elements_choices.specs.declared.timeouts.SlowTimeoutResult as timeout_judged
use Rattle.nextest_run_events_results.specs.declared.result.ExecutionResultDescription.{ExecutionResultDescription}
use Rattle.nextest_run_events_results.specs.declared.result.ExecutionResultDescription.TheVariants as ended

-- a leak that is judged as a pass
abbrev pub passes_with_leak : leak_judged.LeakTimeoutResult → Bool
passes_with_leak leak_judged.TheVariants.Pass = true
passes_with_leak leak_judged.TheVariants.Fail = false

-- a timeout that is judged as a pass
abbrev pub passes_with_timeout : timeout_judged.SlowTimeoutResult → Bool
passes_with_timeout timeout_judged.TheVariants.Pass = true
passes_with_timeout timeout_judged.TheVariants.Fail = false

-- a success: a pass, or a leak or timeout that is judged as one
abbrev pub is_success : ExecutionResultDescription → Bool
is_success ended.Pass = true
is_success (ended.Leak judged) = passes_with_leak judged
is_success (ended.Fail failure leaked) = false
is_success ended.ExecFail = false
is_success (ended.Timeout judged) = passes_with_timeout judged

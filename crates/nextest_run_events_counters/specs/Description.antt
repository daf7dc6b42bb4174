-- What the attempts of a test come to.
use Rattle.std.specs.Prelude.{List, [], ◌∷◌, length, take, Bool, true, false, IsTrue, Option, None, if◌then◌else◌}
use Rattle.std.specs.Option.{option_map}
use Rattle.nextest_config_elements_choices.specs.declared.status_level.StatusLevel.{StatusLevel}
use Rattle.nextest_config_elements_choices.specs.declared.status_level.StatusLevel.TheVariants as level
use Rattle.nextest_config_elements_choices.specs.declared.status_level.FinalStatusLevel.{FinalStatusLevel}
use Rattle.nextest_config_elements_choices.specs.declared.status_level.FinalStatusLevel.TheVariants as final_level
use Rattle.nextest_config_elements_choices.specs.declared.timeouts.FlakyResult.{FlakyResult}
use Rattle.nextest_config_elements_choices.specs.declared.timeouts.FlakyResult.TheVariants as flaky
use Rattle.nextest_config_elements_choices.specs.declared.timeouts.LeakTimeoutResult.TheVariants as leak
use Rattle.nextest_config_elements_choices.specs.declared.timeouts.SlowTimeoutResult.TheVariants as timeout
use Rattle.nextest_run_events_results.specs.Result.{is_success}
use Rattle.nextest_run_events_results.specs.declared.result.ExecutionResultDescription.{ExecutionResultDescription}
use Rattle.nextest_run_events_results.specs.declared.result.ExecutionResultDescription.TheVariants as ended
use Rattle.nextest_run_events_counters.specs.Attempts.{last}
use Rattle.nextest_run_events_outputs.specs.declared.execute_status.ExecuteStatus.{ExecuteStatus}
use Rattle.nextest_run_events_counters.specs.declared.execution_description.ExecutionDescription.{ExecutionDescription}
use Rattle.nextest_run_events_counters.specs.declared.execution_description.ExecutionDescription.TheVariants as described

-- what the attempts of a test come to: a lone success, a success after other attempts, or no
-- success at the end
pub data Description (S O : Type 0) : Type 0 where
  Success : ExecuteStatus S O → Description S O
  Flaky : ExecuteStatus S O → List (ExecuteStatus S O) → FlakyResult → Description S O
  Failure : ExecuteStatus S O → ExecuteStatus S O → List (ExecuteStatus S O) → Description S O

-- what a description that lends its attempts describes
abbrev pub description_in : {S O : Type 0} → ExecutionDescription S O → Description S O
description_in (described.Success single) = Success single.now
description_in (described.Flaky last prior rule) = Flaky last.now prior.now rule
description_in (described.Failure first last retries) = Failure first.now last.now retries.now

-- a success as the last attempt, after these
abbrev pub success_after : {S O : Type 0} → List (ExecuteStatus S O) → ExecuteStatus S O → FlakyResult → Description S O
success_after [] last rule = Success last
success_after (first ∷ others) last rule = Flaky last (first ∷ others) rule

-- the last attempt decides; no attempts come to nothing
abbrev pub description_of : {S O : Type 0} → List (ExecuteStatus S O) → FlakyResult → Option (Description S O)
description_of [] rule = None
description_of (first ∷ retries) rule =
    option_map (λ final. if is_success final.result then success_after (take (length retries) (first ∷ retries)) final rule else Failure first final retries) (last (first ∷ retries))

-- where a lone success is described, it is one
abbrev pub HoldsSuccess : {S O : Type 0} → Description S O → Type 0
HoldsSuccess (Success single) = IsTrue (is_success single.result)
HoldsSuccess (Flaky last prior rule) = Unit {0}
HoldsSuccess (Failure first last retries) = Unit {0}

-- a success at the end, whatever becomes of the test
abbrev pub ends_in_success : {S O : Type 0} → Description S O → Bool
ends_in_success (Success single) = true
ends_in_success (Flaky last prior rule) = true
ends_in_success (Failure first last retries) = false

abbrev pub last_described : {S O : Type 0} → Description S O → ExecuteStatus S O
last_described (Success single) = single
last_described (Flaky last prior rule) = last
last_described (Failure first last retries) = last

-- the level of a lone attempt by its result
abbrev pub level_of_result : ExecutionResultDescription → StatusLevel
level_of_result ended.Pass = level.Pass
level_of_result (ended.Leak leak.Pass) = level.Leak
level_of_result (ended.Leak leak.Fail) = level.Fail
level_of_result (ended.Fail failure leaked) = level.Fail
level_of_result ended.ExecFail = level.Fail
level_of_result (ended.Timeout timeout.Pass) = level.Slow
level_of_result (ended.Timeout timeout.Fail) = level.Fail

-- a late success is a retry, or a failure by the flaky rule
abbrev pub level_of : {S O : Type 0} → Description S O → StatusLevel
level_of (Success single) = level_of_result single.result
level_of (Flaky last prior flaky.Pass) = level.Retry
level_of (Flaky last prior flaky.Fail) = level.Fail
level_of (Failure first last retries) = level.Fail

-- the same in a summary
abbrev pub final_level_of_result : ExecutionResultDescription → FinalStatusLevel
final_level_of_result ended.Pass = final_level.Pass
final_level_of_result (ended.Leak leak.Pass) = final_level.Leak
final_level_of_result (ended.Leak leak.Fail) = final_level.Fail
final_level_of_result (ended.Fail failure leaked) = final_level.Fail
final_level_of_result ended.ExecFail = final_level.Fail
final_level_of_result (ended.Timeout timeout.Pass) = final_level.Slow
final_level_of_result (ended.Timeout timeout.Fail) = final_level.Fail

-- there a slow attempt is slow before all else, and a late success is flaky
abbrev pub final_level_of : {S O : Type 0} → Description S O → FinalStatusLevel
final_level_of (Success single) = if single.is_slow then final_level.Slow else final_level_of_result single.result
final_level_of (Flaky last prior flaky.Pass) = final_level.Flaky
final_level_of (Flaky last prior flaky.Fail) = final_level.Fail
final_level_of (Failure first last retries) = final_level.Fail

-- The step that an event takes, or why it takes none.
use Rattle.std.specs.Prelude.{ℕ, ◌+◌, ◌==◌, Bool, ◌&&◌, ◌||◌, not, length, [], ◌∷◌, ◌++◌, Some, Result, Ok, Err, map, is_some, nat_lt, nat_le, slice_get, slice_set, if◌then◌else◌}
use Rattle.std.specs.Option.{option_map_or}
use Rattle.nextest_config_elements_choices.specs.MaxFail.{mode_at}
use Rattle.nextest_config_elements_choices.specs.declared.max_fail.TerminateMode.{TerminateMode}
use Rattle.nextest_config_elements_choices.specs.declared.max_fail.TerminateMode.TheVariants as modes
use Rattle.nextest_run_events_results.specs.Cancel.{graver_reason, is_inner}
use Rattle.nextest_run_events_results.specs.Result.{is_success}
use Rattle.nextest_run_events_results.specs.declared.cancel_reason.CancelReason.{CancelReason}
use Rattle.nextest_run_events_results.specs.declared.cancel_reason.CancelReason.TheVariants as why
use Rattle.nextest_run_events_results.specs.declared.record.Record.{Record}
use Rattle.test_runner_core_run_model.specs.State.{TestState, State, failed_weight}
use Rattle.test_runner_core_run_model.specs.declared.mark.Mark.{Mark}
use Rattle.test_runner_core_run_model.specs.declared.mark.Mark.TheVariants as marks
use Rattle.test_runner_core_run_model.specs.declared.event.Event.{Event}
use Rattle.test_runner_core_run_model.specs.declared.event.Event.TheVariants as events
use Rattle.test_runner_core_run_model.specs.declared.step_refusal.StepRefusal.{StepRefusal}
use Rattle.test_runner_core_run_model.specs.declared.step_refusal.StepRefusal.TheVariants as refused

-- a stop under a reason finishes a test that is between two attempts, and no other
abbrev pub stopped_mark : CancelReason → Mark → Mark
stopped_mark reason marks.Waiting = marks.Waiting
stopped_mark reason marks.Running = marks.Running
stopped_mark reason marks.Between = marks.Finished (Some reason)
stopped_mark reason (marks.Finished kept) = marks.Finished kept

abbrev pub finished_by : CancelReason → TestState → TestState
finished_by reason test = record test { mark = stopped_mark reason test.mark }

-- the run, stopped by a reason
abbrev pub stopped_by : CancelReason → State → State
stopped_by reason state = record state { tests = map (finished_by reason) state.tests; reason = Some reason }

-- the next script ended: if not with a success, that stops the run
abbrev pub after_script : State → Record → State
after_script state ending =
    let ended = record state { scripts = state.scripts ++ ending ∷ [] } in
    if is_success ending.result then ended else stopped_by why.SetupScriptFailure ended

abbrev pub script_ended : State → ℕ → Record → Result State StepRefusal
script_ended state script ending =
    if nat_le state.planned_scripts script then Err refused.UnknownScript
    else if is_some state.reason then Err refused.Stopped
    else if not (script == length state.scripts) then Err refused.OutOfOrder
    else Ok (after_script state ending)

-- the state with another test at a place
abbrev pub with_test : State → ℕ → TestState → State
with_test state place test = record state { tests = slice_set state.tests place test }

-- an attempt of a test that waits or is between two attempts starts, once all scripts ended
abbrev pub start_from : State → ℕ → TestState → Mark → Result State StepRefusal
start_from state place test marks.Waiting = Ok (with_test state place (record test { mark = marks.Running }))
start_from state place test marks.Running = Err refused.Running
start_from state place test marks.Between = Ok (with_test state place (record test { mark = marks.Running }))
start_from state place test (marks.Finished kept) = Err refused.Finished

abbrev pub start_of : State → ℕ → TestState → Result State StepRefusal
start_of state place test =
    if is_some state.reason then Err refused.Stopped
    else if nat_lt (length state.scripts) state.planned_scripts then Err refused.ScriptsPending
    else start_from state place test test.mark

abbrev pub state_after_start : State → ℕ → Result State StepRefusal
state_after_start state place = option_map_or (start_of state place) (slice_get state.tests place) (Err refused.UnknownTest)

-- an attempt finishes its test if it is a success or the last try, or where the run is stopped
abbrev pub finishes : State → TestState → Record → Bool
finishes state test ending = is_success ending.result || nat_le test.plan.tries (length test.records + 1) || is_some state.reason

-- the test after its attempt: finished under the reason that stood before, if it is finished
abbrev pub after_attempt : State → TestState → Record → TestState
after_attempt state test ending =
    record test { records = test.records ++ ending ∷ []; mark = if finishes state test ending then marks.Finished state.reason else marks.Between }

-- the reason of a run that its failing tests stop
abbrev pub limit_reason : TerminateMode → CancelReason
limit_reason modes.Wait = why.TestFailure
limit_reason modes.Immediate = why.TestFailureImmediate

-- a run that isn't stopped is stopped where a test finished and what failed reaches the limit
abbrev pub after_limit : Bool → State → State
after_limit finished state =
    if finished && not (is_some state.reason)
    then option_map_or (λ mode. stopped_by (limit_reason mode) state) (mode_at state.limit (failed_weight state.tests)) state
    else state

-- the attempt of a test that ran ended
abbrev pub end_from : State → ℕ → Record → TestState → Mark → Result State StepRefusal
end_from state place ending test marks.Waiting = Err refused.NotRunning
end_from state place ending test marks.Running = Ok (after_limit (finishes state test ending) (with_test state place (after_attempt state test ending)))
end_from state place ending test marks.Between = Err refused.NotRunning
end_from state place ending test (marks.Finished kept) = Err refused.NotRunning

abbrev pub attempt_ended : State → ℕ → Record → Result State StepRefusal
attempt_ended state place ending = option_map_or (λ test. end_from state place ending test test.mark) (slice_get state.tests place) (Err refused.UnknownTest)

-- the run was told to stop: that stops it, and of two reasons the graver stands
abbrev pub state_after_stop : State → CancelReason → Result State StepRefusal
state_after_stop state new =
    if is_inner new then Err refused.InnerReason
    else Ok (option_map_or (λ old. record state { reason = Some (graver_reason old new) }) state.reason (stopped_by new state))

-- the state after an event, or the first reason why it can't happen
abbrev pub step : State → Event → Result State StepRefusal
step state (events.ScriptEnded script ending) = script_ended state script ending
step state (events.Started test) = state_after_start state test
step state (events.Ended test ending) = attempt_ended state test ending
step state (events.Stopped reason) = state_after_stop state reason

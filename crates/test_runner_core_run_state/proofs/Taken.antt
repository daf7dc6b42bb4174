-- What a step that is taken says, and where it leads.
use Rattle.std.proofs.Common.{◌≡◌, ℕ, Bool, true, false, cond, ltb, leb, eqb, not, ◌&&◌, List, ◌++◌, ◌∷◌, [], length, Option, Some, None, option_map, ◌<◌, Result, Ok, Err, refl, sym, ap, subst, ◌∙◌, arith}
use Rattle.std.specs.Prelude.{slice_get, is_some}
use Rattle.std.specs.Option.{option_map_or}
use Rattle.std.proofs.lemmas.Bool.Decides.{nat_tests}
use Rattle.nextest_config_elements_choices.specs.MaxFail.{mode_at}
use Rattle.nextest_config_elements_choices.specs.declared.max_fail.TerminateMode.{TerminateMode}
use Rattle.nextest_run_events_results.specs.Cancel.{graver_reason}
use Rattle.nextest_run_events_results.specs.Result.{is_success}
use Rattle.nextest_run_events_results.specs.declared.cancel_reason.CancelReason.{CancelReason}
use Rattle.nextest_run_events_results.specs.declared.cancel_reason.CancelReason.TheVariants as why
use Rattle.nextest_run_events_results.specs.declared.record.Record.{Record}
use Rattle.test_runner_core_run_model.specs.State.{TestState, State, failed_weight, is_finished, is_running, is_finished_mark, is_running_mark}
use Rattle.test_runner_core_run_model.specs.Finishing.{finished_at, stops_run}
use Rattle.test_runner_core_run_model.specs.Step.{step, start_of, start_from, state_after_start, end_from, attempt_ended, after_attempt, finishes, limit_reason, after_limit, with_test, script_ended, after_script, state_after_stop, stopped_by}
use Rattle.nextest_run_events_results.specs.Cancel.{is_inner}
use Rattle.test_runner_core_run_model.specs.FailLimit.{StopsAtLimit}
use Rattle.test_runner_core_run_model.specs.Decisions.{Decides, ShowsTest}
use Rattle.test_runner_core_run_model.specs.declared.mark.Mark.{Mark}
use Rattle.test_runner_core_run_model.specs.declared.mark.Mark.TheVariants as marks
use Rattle.test_runner_core_run_model.specs.declared.event.Event.{Event}
use Rattle.test_runner_core_run_model.specs.declared.event.Event.TheVariants as events
use Rattle.test_runner_core_run_model.specs.declared.finished.Finished.{Finished}
use Rattle.test_runner_core_run_model.specs.declared.step_refusal.StepRefusal.{StepRefusal}
use Rattle.test_runner_core_run_model.specs.declared.step_refusal.StepRefusal.TheVariants as refused
use Rattle.test_runner_core_run_model.proofs.Finishing.{ended_first, finishes_as, no_stop, start_stops_none, stop_is}
use Rattle.test_runner_core_run_model.proofs.FailLimit.{end_at_limit}
use Rattle.test_runner_core_run_state.specs.Parts.{IsStartable, IsRunningAt, ChangesAt}
use Rattle.test_runner_core_run_state.specs.Progress.{Takes, TakesStep}

-- a mark that was found is that of a test
pub shown_test : (state : State) (place : ℕ) (mark : Mark) → Some mark ≡ option_map (λ (t : TestState). t.mark) (slice_get state.tests place) → ShowsTest state place mark
shown_test state place mark found = by_test (slice_get state.tests place) refl found
  where
    by_test : (o : Option TestState) → slice_get state.tests place ≡ o → Some mark ≡ option_map (λ (t : TestState). t.mark) o → ShowsTest state place mark
    by_test None e h = cc
    by_test (Some test) e h = record { test = test; found = e; marked = cc }

found_ok : {X Y E : Type 0} (f : X → Result Y E) (o : Option X) (e : E) (y : Y) → option_map_or f o (Err e) ≡ Ok y → (x : X) × (o ≡ Some x) × (f x ≡ Ok y)
found_ok f None e y h = cc
found_ok f (Some x) e y h = (x, refl, h)

guard_ok : {Y E : Type 0} (b : Bool) (e : E) (more : Result Y E) (y : Y) → cond b (Err e) more ≡ Ok y → (b ≡ false) × (more ≡ Ok y)
guard_ok true e more y h = cc
guard_ok false e more y h = (refl, h)

-- what a step answers that is taken: whether the test of its attempt is over, and whether it stops
-- the run
pub takes_step : (old new : State) (event : Event) (finished : Finished) → step old event ≡ Ok new
    → option_map_or (λ place. place ∷ []) finished.ended [] ≡ ended_first event new → finished.stops ≡ stops_run old new → TakesStep old event finished new
takes_step old new event finished happens ended stops =
    record { taken = happens; stops = stops; finishes = λ keeps. finishes_as old new event finished keeps happens ended stops }

-- an attempt that starts finishes no test
pub takes_start : (old new : State) (place : ℕ) → step old (events.Started place) ≡ Ok new → TakesStep old (events.Started place) (record { ended = None; stops = false }) new
takes_start old new place happens =
    takes_step old new (events.Started place) (record { ended = None; stops = false }) happens refl (sym (start_stops_none old new place happens))

-- the place of the attempt that ended, where its test is over
pub ended_is : (state : State) (place : ℕ) (ending : Record) (ended : Option ℕ) → ended ≡ cond (finished_at state.tests place) (Some place) None
    → option_map_or (λ p. p ∷ []) ended [] ≡ ended_first (events.Ended place ending) state
ended_is state place ending ended is = ap (λ (o : Option ℕ). option_map_or (λ p. p ∷ []) o []) is ∙ by_test (finished_at state.tests place)
  where
    by_test : (b : Bool) → option_map_or (λ p. p ∷ []) (cond b (Some place) None) [] ≡ cond b (place ∷ []) []
    by_test true = refl
    by_test false = refl

-- a run that isn't stopped is stopped where a reason is given
pub stop_given : (old mid : State) (given : Option CancelReason) → old.reason ≡ None → mid.reason ≡ None
    → stops_run old (option_map_or (λ new. stopped_by new mid) given mid) ≡ is_some given
stop_given old mid None none same = no_stop old mid (same ∙ sym none)
stop_given old mid (Some reason) none same = stop_is old (stopped_by reason mid) reason none refl

-- where a reason stands after a step, the step stopped the run if none stood before
pub stops_unless : (old new : State) (reason : CancelReason) → new.reason ≡ Some reason → not (is_some old.reason) ≡ stops_run old new
stops_unless old new reason some =
    by_test (is_some old.reason) ∙ sym (ap (λ (o : Option CancelReason). not (is_some old.reason) && is_some o) some)
  where
    by_test : (b : Bool) → not b ≡ (not b && true)
    by_test true = refl
    by_test false = refl

-- an attempt that may start
record Starting (state : State) (place : ℕ) : Type 0 where
  test : TestState
  found : slice_get state.tests place ≡ Some test
  idle : is_running test ≡ false
  open_still : is_finished test ≡ false
  leads : state_after_start state place ≡ Ok (with_test state place (record test { mark = marks.Running }))

starting : (state : State) (place : ℕ) → Decides state (events.Started place) None → Starting state place
starting state place taken =
    let found = found_ok (start_of state place) (slice_get state.tests place) refused.UnknownTest taken.0 taken.1 in
    let free = guard_ok (is_some state.reason) refused.Stopped _ taken.0 found.2 in
    let ended = guard_ok (ltb (length state.scripts) state.planned_scripts) refused.ScriptsPending _ taken.0 free.1 in
    by_mark found.0 found.1 (found.0).mark refl ended.1 (taken.1 ∙ sym ended.1)
  where
    by_mark : (test : TestState) → slice_get state.tests place ≡ Some test → (mark : Mark) → test.mark ≡ mark → start_from state place test test.mark ≡ Ok taken.0
        → state_after_start state place ≡ start_from state place test test.mark → Starting state place
    by_mark test at marks.Waiting m h leads =
        record { test = test; found = at; idle = ap is_running_mark m; open_still = ap is_finished_mark m; leads = leads ∙ ap (start_from state place test) m }
    by_mark test at marks.Running m h leads = let e : start_from state place test marks.Running ≡ Ok taken.0 = sym (ap (start_from state place test) m) ∙ h in cc
    by_mark test at marks.Between m h leads =
        record { test = test; found = at; idle = ap is_running_mark m; open_still = ap is_finished_mark m; leads = leads ∙ ap (start_from state place test) m }
    by_mark test at (marks.Finished kept) m h leads = let e : start_from state place test (marks.Finished kept) ≡ Ok taken.0 = sym (ap (start_from state place test) m) ∙ h in cc

pub startable : (state : State) (place : ℕ) → Decides state (events.Started place) None → IsStartable state.tests place
startable state place taken =
    let it = starting state place taken in
    record { test = it.test; found = it.found; idle = it.idle; open_still = it.open_still }

pub start_leads : (state : State) (place : ℕ) (tests : List TestState) → Decides state (events.Started place) None
    → ChangesAt place (λ test. record test { mark = marks.Running }) state.tests tests
    → state_after_start state place ≡ Ok (record state { tests = tests })
start_leads state place tests taken new =
    let it = starting state place taken in
    it.leads ∙ ap (λ (ts : List TestState). Ok (record state { tests = ts })) (sym (new it.test it.found))

-- an attempt that may end
pub running_at : (state : State) (place : ℕ) (ending : Record) → Decides state (events.Ended place ending) None → IsRunningAt state.tests place
running_at state place ending taken =
    let found = found_ok (λ (t : TestState). end_from state place ending t t.mark) (slice_get state.tests place) refused.UnknownTest taken.0 taken.1 in
    by_mark found.0 found.1 (found.0).mark refl found.2
  where
    by_mark : (test : TestState) → slice_get state.tests place ≡ Some test → (mark : Mark) → test.mark ≡ mark → end_from state place ending test mark ≡ Ok taken.0 → IsRunningAt state.tests place
    by_mark test at marks.Waiting m h = cc
    by_mark test at marks.Running m h = record { test = test; found = at; runs = m }
    by_mark test at marks.Between m h = cc
    by_mark test at (marks.Finished kept) m h = cc

pub end_leads : (state : State) (place : ℕ) (ending : Record) (tests : List TestState) (finished : Bool) → IsRunningAt state.tests place
    → ChangesAt place (λ test. after_attempt state test ending) state.tests tests
    → ((test : TestState) → slice_get state.tests place ≡ Some test → finished ≡ finishes state test ending)
    → attempt_ended state place ending ≡ Ok (after_limit finished (record state { tests = tests }))
end_leads state place ending tests finished it new is_finished =
    ap (λ (o : Option TestState). option_map_or (λ test. end_from state place ending test test.mark) o (Err refused.UnknownTest)) it.found
    ∙ ap (end_from state place ending it.test) it.runs
    ∙ ap (λ (b : Bool). Ok (after_limit b (with_test state place (after_attempt state it.test ending)))) (sym (is_finished it.test it.found))
    ∙ ap (λ (ts : List TestState). Ok (after_limit finished (record state { tests = ts }))) (sym (new it.test it.found))

no_reason : {X : Type 0} (o : Option X) → is_some o ≡ false → o ≡ None
no_reason None h = refl
no_reason (Some x) h = cc

-- a script that may end
pub script_within : (state : State) (script : ℕ) (ending : Record) → Decides state (events.ScriptEnded script ending) None
    → (length state.scripts < state.planned_scripts) × (state.reason ≡ None) × (script_ended state script ending ≡ Ok (after_script state ending))
script_within state script ending taken =
    let known = guard_ok (leb state.planned_scripts script) refused.UnknownScript _ taken.0 taken.1 in
    let free = guard_ok (is_some state.reason) refused.Stopped _ taken.0 known.1 in
    let next = guard_ok (not (eqb script (length state.scripts))) refused.OutOfOrder _ taken.0 free.1 in
    (grind (arith, nat_tests, known.0, next.0), no_reason state.reason free.0, taken.1 ∙ sym next.1)

-- the state after a script, by why it stops the run
pub script_leads : (state : State) (ending : Record) (failed : Option CancelReason) → failed ≡ cond (is_success ending.result) None (Some why.SetupScriptFailure)
    → after_script state ending ≡ option_map_or (λ new. stopped_by new (record state { scripts = state.scripts ++ ending ∷ [] })) failed (record state { scripts = state.scripts ++ ending ∷ [] })
script_leads state ending failed e = by_test (is_success ending.result) ∙ ap (λ (o : Option CancelReason). option_map_or (λ new. stopped_by new ended) o ended) (sym e)
  where
    ended : State
    ended = record state { scripts = state.scripts ++ ending ∷ [] }

    by_test : (b : Bool) → cond b (record state { scripts = state.scripts ++ ending ∷ [] }) (stopped_by why.SetupScriptFailure (record state { scripts = state.scripts ++ ending ∷ [] }))
        ≡ option_map_or (λ new. stopped_by new (record state { scripts = state.scripts ++ ending ∷ [] })) (cond b None (Some why.SetupScriptFailure)) (record state { scripts = state.scripts ++ ending ∷ [] })
    by_test true = refl
    by_test false = refl

-- the run is told to stop
pub stop_leads : (state : State) (reason : CancelReason) → Decides state (events.Stopped reason) None
    → state_after_stop state reason ≡ Ok (option_map_or (λ old. record state { reason = Some (graver_reason old reason) }) state.reason (stopped_by reason state))
stop_leads state reason taken = let may = guard_ok (is_inner reason) refused.InnerReason _ taken.0 taken.1 in taken.1 ∙ sym may.1

-- a run that isn't stopped goes by what its limit says once a test finished
pub limited_when : (state : State) (finished : Bool) (mode : Option TerminateMode) → finished ≡ true → is_some state.reason ≡ false
    → mode_at state.limit (failed_weight state.tests) ≡ mode → after_limit finished state ≡ option_map_or (λ m. stopped_by (limit_reason m) state) mode state
limited_when state finished mode over free reached =
    ap (λ (b : Bool). after_limit b state) over
    ∙ ap (λ (b : Bool). cond (not b) (option_map_or (λ m. stopped_by (limit_reason m) state) (mode_at state.limit (failed_weight state.tests)) state) state) free
    ∙ ap (λ (o : Option TerminateMode). option_map_or (λ m. stopped_by (limit_reason m) state) o state) reached

-- the end of an attempt that is taken, or refused, stops a run at its limit alone
pub takes_at_limit : (old new : State) (place : ℕ) (ending : Record) (result : Result Finished StepRefusal) → Takes old (events.Ended place ending) result new → StopsAtLimit old new
takes_at_limit old new place ending (Ok finished) it = end_at_limit old new place ending it.taken
takes_at_limit old new place ending (Err refusal) it = subst (StopsAtLimit old) (sym it.1) (λ going below. going ∙ sym below)

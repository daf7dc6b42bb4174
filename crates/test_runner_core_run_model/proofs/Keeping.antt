-- What the steps that are taken show, and what every run keeps of its plan and of the assignment's
-- scripts.
use Rattle.std.proofs.Common.{suc, ◌≡◌, ℕ, ◌<◌, ◌≤◌, Bool, true, false, cond, ltb, leb, eqb, not, List, [], ◌∷◌, ◌++◌, length, Option, Some, None, Ok, map, refl, sym, ap, ◌∙◌, arith, length-append}
use Rattle.std.specs.Prelude.{slice_get, is_some}
use Rattle.std.proofs.lemmas.Bool.Decides.{nat_tests}
use Rattle.nextest_run_events_results.specs.declared.cancel_reason.CancelReason.{CancelReason}
use Rattle.nextest_run_events_results.specs.declared.cancel_reason.CancelReason.TheVariants as why
use Rattle.nextest_run_events_results.specs.Result.{is_success}
use Rattle.nextest_run_events_results.specs.declared.record.Record.{Record}
use Rattle.test_runner_core_run_model.specs.RunPlan.{RunPlan}
use Rattle.test_runner_core_run_model.specs.Assignment.{Assignment}
use Rattle.test_runner_core_run_model.specs.Ends.{first_scripts}
use Rattle.test_runner_core_run_model.specs.State.{TestState, State, initial, is_finished, is_finished_mark, is_running, is_running_mark}
use Rattle.test_runner_core_run_model.specs.Step.{script_ended, after_script, state_after_start, start_of, start_from, attempt_ended, end_from, with_test, after_attempt, finishes, after_limit, stopped_by}
use Rattle.test_runner_core_run_model.specs.declared.mark.Mark.{Mark}
use Rattle.test_runner_core_run_model.specs.declared.mark.Mark.TheVariants as marks
use Rattle.test_runner_core_run_model.specs.declared.step_refusal.StepRefusal.TheVariants as refused
use Rattle.test_runner_core_run_model.proofs.TestStates.{plan_of, plans_set, plans_stopped, plans_initial}
use Rattle.test_runner_core_run_model.proofs.Scripts.{guard_ok, found_ok, ok_is}

none_of : (o : Option CancelReason) → is_some o ≡ false → o ≡ None
none_of None h = refl
none_of (Some reason) h = cc

not_true : (b : Bool) → not b ≡ false → b ≡ true
not_true true h = refl
not_true false h = cc

-- a script that ended: no reason stood, and it was the next one
pub record ScriptShows (old new : State) (script : ℕ) (ending : Record) : Type 0 where
  pub going : old.reason ≡ None
  pub next : script ≡ length old.scripts
  pub less : length old.scripts < old.planned_scripts
  pub is : new ≡ after_script old ending

pub script_shows : (old new : State) (script : ℕ) (ending : Record) → script_ended old script ending ≡ Ok new → ScriptShows old new script ending
script_shows old new script ending happens =
    let known = guard_ok (leb old.planned_scripts script) _ _ new happens in
    let free = guard_ok (is_some old.reason) _ _ new known.1 in
    let in_order = guard_ok (not (eqb script (length old.scripts))) _ _ new free.1 in
    let place : script ≡ length old.scripts = (let e = not_true (eqb script (length old.scripts)) in_order.0 in grind (arith, nat_tests)) in
    let e = known.0 in
    record { going = none_of old.reason free.0; next = place; less = grind (arith, nat_tests); is = ok_is (after_script old ending) new in_order.1 }

-- a test that started: no reason stood, all scripts had ended, and it neither ran nor was finished
pub record StartShows (old new : State) (place : ℕ) : Type 0 where
  pub test : TestState
  pub found : slice_get old.tests place ≡ Some test
  pub going : old.reason ≡ None
  pub over : ltb (length old.scripts) old.planned_scripts ≡ false
  pub unfinished : is_finished test ≡ false
  pub idle : is_running test ≡ false
  pub is : new ≡ with_test old place (record test { mark = marks.Running })

pub start_shows : (old new : State) (place : ℕ) → state_after_start old place ≡ Ok new → StartShows old new place
start_shows old new place happens =
    let known = found_ok (start_of old place) (slice_get old.tests place) refused.UnknownTest new happens in
    let free = guard_ok (is_some old.reason) refused.Stopped _ new known.2 in
    let ended = guard_ok (ltb (length old.scripts) old.planned_scripts) refused.ScriptsPending _ new free.1 in
    by_mark known.0 known.1 (none_of old.reason free.0) ended.0 (known.0).mark refl ended.1
  where
    by_mark : (test : TestState) → slice_get old.tests place ≡ Some test → old.reason ≡ None → ltb (length old.scripts) old.planned_scripts ≡ false
        → (mark : Mark) → test.mark ≡ mark → start_from old place test mark ≡ Ok new → StartShows old new place
    by_mark test at none ended marks.Waiting m happens' =
        record { test = test; found = at; going = none; over = ended; unfinished = ap is_finished_mark m; idle = ap is_running_mark m; is = ok_is _ new happens' }
    by_mark test at none ended marks.Running m happens' = cc
    by_mark test at none ended marks.Between m happens' =
        record { test = test; found = at; going = none; over = ended; unfinished = ap is_finished_mark m; idle = ap is_running_mark m; is = ok_is _ new happens' }
    by_mark test at none ended (marks.Finished kept) m happens' = cc

-- an attempt that ended: its test ran
pub record EndShows (old new : State) (place : ℕ) (ending : Record) : Type 0 where
  pub test : TestState
  pub found : slice_get old.tests place ≡ Some test
  pub running : test.mark ≡ marks.Running
  pub is : new ≡ after_limit (finishes old test ending) (with_test old place (after_attempt old test ending))

pub end_shows : (old new : State) (place : ℕ) (ending : Record) → attempt_ended old place ending ≡ Ok new → EndShows old new place ending
end_shows old new place ending happens =
    let known = found_ok (λ (t : TestState). end_from old place ending t t.mark) (slice_get old.tests place) refused.UnknownTest new happens in
    by_mark known.0 known.1 (known.0).mark refl known.2
  where
    by_mark : (test : TestState) → slice_get old.tests place ≡ Some test → (mark : Mark) → test.mark ≡ mark → end_from old place ending test mark ≡ Ok new → EndShows old new place ending
    by_mark test at marks.Waiting m happens' = cc
    by_mark test at marks.Running m happens' = record { test = test; found = at; running = m; is = ok_is _ new happens' }
    by_mark test at marks.Between m happens' = cc
    by_mark test at (marks.Finished kept) m happens' = cc

-- what a run keeps: its plan, and that its scripts' records are those of the first scripts of the
-- assignment
pub record Keeps (plan : RunPlan) (assigned : Assignment) (state : State) : Type 0 where
  pub plans : map plan_of state.tests ≡ plan.tests
  pub planned : state.planned_scripts ≡ plan.scripts
  pub limit : state.limit ≡ plan.limit
  pub scripts : state.scripts ≡ first_scripts assigned.script (length state.scripts)
  pub within : length state.scripts ≤ state.planned_scripts

pub keeps_initial : (plan : RunPlan) (assigned : Assignment) → Keeps plan assigned (initial plan)
keeps_initial plan assigned = record { plans = plans_initial plan.tests; planned = refl; limit = refl; scripts = refl; within = omega arith }

pub keeps_stopped : (plan : RunPlan) (assigned : Assignment) (state : State) (reason : CancelReason) → Keeps plan assigned state → Keeps plan assigned (stopped_by reason state)
keeps_stopped plan assigned state reason keeps =
    record { plans = plans_stopped reason state.tests ∙ keeps.plans; planned = keeps.planned; limit = keeps.limit; scripts = keeps.scripts; within = keeps.within }

pub keeps_script : (plan : RunPlan) (assigned : Assignment) (old : State) (ending : Record) → Keeps plan assigned old
    → length old.scripts < old.planned_scripts → ending ≡ assigned.script (length old.scripts) → Keeps plan assigned (after_script old ending)
keeps_script plan assigned old ending keeps less same = by_success (is_success ending.result)
  where
    count : length (old.scripts ++ ending ∷ []) ≡ suc (length old.scripts)
    count = omega (arith, length-append old.scripts (ending ∷ []))

    ended : Keeps plan assigned (record old { scripts = old.scripts ++ ending ∷ [] })
    ended =
        record {
          plans = keeps.plans;
          planned = keeps.planned;
          limit = keeps.limit;
          scripts = ap (λ (xs : List Record). xs ++ ending ∷ []) keeps.scripts
              ∙ ap (λ (r : Record). first_scripts assigned.script (length old.scripts) ++ r ∷ []) same
              ∙ sym (ap (first_scripts assigned.script) count);
          within = omega (arith, count);
        }

    by_success : (succeeds : Bool)
        → Keeps plan assigned (cond succeeds (record old { scripts = old.scripts ++ ending ∷ [] }) (stopped_by why.SetupScriptFailure (record old { scripts = old.scripts ++ ending ∷ [] })))
    by_success true = ended
    by_success false = keeps_stopped plan assigned (record old { scripts = old.scripts ++ ending ∷ [] }) why.SetupScriptFailure ended

pub keeps_set : (plan : RunPlan) (assigned : Assignment) (state : State) (place : ℕ) (old new : TestState) → Keeps plan assigned state
    → slice_get state.tests place ≡ Some old → new.plan ≡ old.plan → Keeps plan assigned (with_test state place new)
keeps_set plan assigned state place old new keeps at same =
    record { plans = plans_set state.tests place old new at same ∙ keeps.plans; planned = keeps.planned; limit = keeps.limit; scripts = keeps.scripts; within = keeps.within }

-- What any run keeps of its plan, and that a run of status 0 left nothing out.
use Rattle.std.proofs.Common.{suc, ◌≡◌, ℕ, ◌≤◌, Bool, true, false, cond, ltb, eqb, not, ◌&&◌, List, [], ◌∷◌, ◌++◌, length, Option, Some, None, Ok, map, refl, sym, ◌∙◌, subst, arith, length-append, count_by}
use Rattle.std.specs.Prelude.{is_some}
use Rattle.std.specs.List.{list_any}
use Rattle.std.specs.Option.{option_map_or}
use Rattle.std.proofs.lemmas.Bool.Decides.{nat_tests}
use Rattle.nextest_config_elements_choices.specs.MaxFail.{mode_at}
use Rattle.nextest_config_elements_choices.specs.declared.max_fail.TerminateMode.{TerminateMode}
use Rattle.nextest_run_events_results.specs.Cancel.{graver_reason, is_inner}
use Rattle.nextest_run_events_results.specs.Result.{is_success}
use Rattle.nextest_run_events_results.specs.declared.cancel_reason.CancelReason.{CancelReason}
use Rattle.nextest_run_events_results.specs.declared.cancel_reason.CancelReason.TheVariants as why
use Rattle.nextest_run_events_counters.specs.Rows.{fails_test}
use Rattle.test_runner_core_run_model.specs.RunPlan.{RunPlan}
use Rattle.test_runner_core_run_model.specs.State.{TestState, State, initial, counts, is_finished, failed_weight}
use Rattle.test_runner_core_run_model.specs.Step.{step, with_test, after_attempt, finishes, after_limit, limit_reason, stopped_by}
use Rattle.test_runner_core_run_model.specs.Runs.{Run}
use Rattle.test_runner_core_run_model.specs.Laws.{SucceedsWhole}
use Rattle.test_runner_core_run_model.specs.declared.event.Event.{Event}
use Rattle.test_runner_core_run_model.specs.declared.event.Event.TheVariants as events
use Rattle.test_runner_core_run_model.specs.declared.mark.Mark.TheVariants as marks
use Rattle.test_runner_core_run_model.specs.declared.step_refusal.StepRefusal.TheVariants as refused
use Rattle.test_runner_core_run_model.proofs.Counting.{all_counted}
use Rattle.test_runner_core_run_model.proofs.DueStatus.{fails_told, status_by, status_is}
use Rattle.test_runner_core_run_model.proofs.Keeping.{script_shows, start_shows, end_shows}
use Rattle.test_runner_core_run_model.proofs.Scripts.{guard_ok, ok_is}
use Rattle.test_runner_core_run_model.proofs.TestStates.{plan_of, plans_set, plans_stopped, plans_initial}

-- what a state has of its plan, whatever happened
pub record Planned (plan : RunPlan) (state : State) : Type 0 where
  pub plans : map plan_of state.tests ≡ plan.tests
  pub planned : state.planned_scripts ≡ plan.scripts
  pub limit : state.limit ≡ plan.limit
  pub skipped : state.skipped ≡ plan.skipped
  pub within : length state.scripts ≤ state.planned_scripts

pub planned_initial : (plan : RunPlan) → Planned plan (initial plan)
planned_initial plan = record { plans = plans_initial plan.tests; planned = refl; limit = refl; skipped = refl; within = omega arith }

planned_stopped : (plan : RunPlan) (state : State) (reason : CancelReason) → Planned plan state → Planned plan (stopped_by reason state)
planned_stopped plan state reason h =
    record { plans = plans_stopped reason state.tests ∙ h.plans; planned = h.planned; limit = h.limit; skipped = h.skipped; within = h.within }

planned_limited : (plan : RunPlan) (state : State) (finished : Bool) → Planned plan state → Planned plan (after_limit finished state)
planned_limited plan state finished h = by_test (finished && not (is_some state.reason)) (mode_at state.limit (failed_weight state.tests))
  where
    by_test : (b : Bool) (reached : Option TerminateMode) → Planned plan (cond b (option_map_or (λ mode. stopped_by (limit_reason mode) state) reached state) state)
    by_test false reached = h
    by_test true None = h
    by_test true (Some mode) = planned_stopped plan state (limit_reason mode) h

planned_set : (plan : RunPlan) (state : State) (place : ℕ) (new : TestState) → Planned plan state → map plan_of (with_test state place new).tests ≡ map plan_of state.tests
    → Planned plan (with_test state place new)
planned_set plan state place new h same =
    record { plans = same ∙ h.plans; planned = h.planned; limit = h.limit; skipped = h.skipped; within = h.within }

pub step_planned : (plan : RunPlan) (old new : State) (event : Event) → Planned plan old → step old event ≡ Ok new → Planned plan new
step_planned plan old new (events.ScriptEnded script ending) h happens =
    let shows = script_shows old new script ending happens in
    let less = shows.less in
    let count : length (old.scripts ++ ending ∷ []) ≡ suc (length old.scripts) = omega (arith, length-append old.scripts (ending ∷ [])) in
    let ended : Planned plan (record old { scripts = old.scripts ++ ending ∷ [] }) =
    record { plans = h.plans; planned = h.planned; limit = h.limit; skipped = h.skipped; within = omega (arith, count) } in
    subst (Planned plan) (sym shows.is) (by_success ended (is_success ending.result))
  where
    by_success : Planned plan (record old { scripts = old.scripts ++ ending ∷ [] }) → (succeeds : Bool)
        → Planned plan (cond succeeds (record old { scripts = old.scripts ++ ending ∷ [] }) (stopped_by why.SetupScriptFailure (record old { scripts = old.scripts ++ ending ∷ [] })))
    by_success ended true = ended
    by_success ended false = planned_stopped plan (record old { scripts = old.scripts ++ ending ∷ [] }) why.SetupScriptFailure ended
step_planned plan old new (events.Started place) h happens =
    let shows = start_shows old new place happens in
    let running = record shows.test { mark = marks.Running } in
    subst (Planned plan) (sym shows.is) (planned_set plan old place running h (plans_set old.tests place shows.test running shows.found refl))
step_planned plan old new (events.Ended place ending) h happens =
    let shows = end_shows old new place ending happens in
    let after = after_attempt old shows.test ending in
    subst (Planned plan) (sym shows.is)
    (planned_limited plan (with_test old place after) (finishes old shows.test ending)
    (planned_set plan old place after h (plans_set old.tests place shows.test after shows.found refl)))
step_planned plan old new (events.Stopped reason) h happens =
    let free = guard_ok (is_inner reason) refused.InnerReason _ new happens in
    subst (Planned plan) (sym (ok_is _ new free.1)) (by_reason old.reason)
  where
    by_reason : (given : Option CancelReason) → Planned plan (option_map_or (λ kept. record old { reason = Some (graver_reason kept reason) }) given (stopped_by reason old))
    by_reason None = planned_stopped plan old reason h
    by_reason (Some kept) = record { plans = h.plans; planned = h.planned; limit = h.limit; skipped = h.skipped; within = h.within }

pub run_planned : (plan : RunPlan) (old : State) (run : List Event) (new : State) → Planned plan old → Run old run new → Planned plan new
run_planned plan old [] new h happens = subst (Planned plan) (sym happens) h
run_planned plan old (event ∷ run) new h happens = run_planned plan happens.0 run new (step_planned plan old happens.0 event h happens.1) happens.2

-- a status of 0 leaves no script and no test
zero_status : (script pending test unfinished nothing : Bool) → status_by script pending test unfinished nothing ≡ 0 → (pending ≡ false) × (unfinished ≡ false)
zero_status true pending test unfinished nothing h = absurd (omega arith)
zero_status false true test unfinished nothing h = absurd (omega arith)
zero_status false false true unfinished nothing h = absurd (omega arith)
zero_status false false false true nothing h = absurd (omega arith)
zero_status false false false false nothing h = (refl, refl)

pub succeeds_whole : SucceedsWhole
succeeds_whole plan run last happens zero_now =
    let kept = run_planned plan (initial plan) run last (planned_initial plan) happens in
    let none =
    zero_status (list_any fails_told last.scripts) (ltb (length last.scripts) last.planned_scripts) (list_any (counts fails_test) last.tests)
    (ltb (count_by is_finished last.tests) (length last.tests)) (eqb (count_by is_finished last.tests) 0) (sym (status_is last) ∙ zero_now) in
    let within = kept.within in
    let ended = none.0 in
    let all : length last.scripts ≡ last.planned_scripts = grind (arith, nat_tests) in
    record { planned_scripts = kept.planned; scripts = all ∙ kept.planned; tests = kept.plans; finished = all_counted is_finished last.tests none.1 }

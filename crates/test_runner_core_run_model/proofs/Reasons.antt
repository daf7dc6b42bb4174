-- What a run does once a reason stands.
use Rattle.std.proofs.Common.{suc, zero, ◌≡◌, ℕ, ◌≤◌, Bool, true, false, cond, ltb, leb, not, ◌&&◌, List, [], ◌∷◌, length, Option, Some, None, Result, Ok, Err, refl, sym, ap, ◌∙◌, subst, arith}
use Rattle.std.specs.Prelude.{slice_get, is_some}
use Rattle.std.specs.Option.{option_map_or}
use Rattle.std.proofs.lemmas.Bool.Decides.{nat_tests}
use Rattle.nextest_config_elements_choices.specs.MaxFail.{mode_at}
use Rattle.nextest_run_events_results.specs.Cancel.{gravity, graver_reason, is_inner}
use Rattle.nextest_run_events_results.specs.declared.cancel_reason.CancelReason.{CancelReason}
use Rattle.test_runner_core_run_model.specs.State.{State, failed_weight}
use Rattle.test_runner_core_run_model.specs.Step.{step, start_of, after_limit, limit_reason, stopped_by, with_test, after_attempt, finishes}
use Rattle.test_runner_core_run_model.specs.Runs.{Run}
use Rattle.test_runner_core_run_model.specs.Laws.{RefusesScripts, RefusesStarts, KeepsAReason}
use Rattle.test_runner_core_run_model.specs.declared.event.Event.{Event}
use Rattle.test_runner_core_run_model.specs.declared.event.Event.TheVariants as events
use Rattle.test_runner_core_run_model.specs.declared.step_refusal.StepRefusal.{StepRefusal}
use Rattle.test_runner_core_run_model.specs.declared.step_refusal.StepRefusal.TheVariants as refused
use Rattle.test_runner_core_run_model.proofs.Keeping.{script_shows, start_shows, end_shows}
use Rattle.test_runner_core_run_model.proofs.Scripts.{guard_ok, ok_is}

-- two guards in a row, the second of which refuses
second_guard : {Y : Type 0} (first second : Bool) (refusal other : StepRefusal) (more : Result Y StepRefusal) → second ≡ true
    → cond first (Err refusal) (cond second (Err other) more) ≡ Err (cond first refusal other)
second_guard true second refusal other more h = refl
second_guard false true refusal other more h = refl
second_guard false false refusal other more h = cc

pub refuses_scripts : RefusesScripts
refuses_scripts state script ending stands = second_guard (leb state.planned_scripts script) (is_some state.reason) refused.UnknownScript refused.Stopped _ stands

-- a look-up that refuses in front of a guard that refuses
found_guard : {X Y : Type 0} (tests : List X) (place : ℕ) (f : X → Result Y StepRefusal) (refusal other : StepRefusal) → ((test : X) → f test ≡ Err other)
    → option_map_or f (slice_get tests place) (Err refusal) ≡ Err (cond (leb (length tests) place) refusal other)
found_guard {Y = Y} [] place f refusal other each =
    let past : leb 0 place ≡ true = grind (arith, nat_tests) in ap (λ (b : Bool). let r : Result Y StepRefusal = Err (cond b refusal other) in r) (sym past)
found_guard {Y = Y} (test ∷ tests) zero f refusal other each =
    let within : leb (suc (length tests)) 0 ≡ false = grind (arith, nat_tests) in
    each test ∙ ap (λ (b : Bool). let r : Result Y StepRefusal = Err (cond b refusal other) in r) (sym within)
found_guard {Y = Y} (test ∷ tests) (suc place) f refusal other each =
    let one_less : leb (suc (length tests)) (suc place) ≡ leb (length tests) place = by_test (leb (length tests) place) refl in
    found_guard tests place f refusal other each ∙ ap (λ (b : Bool). let r : Result Y StepRefusal = Err (cond b refusal other) in r) (sym one_less)
  where
    by_test : (b : Bool) → leb (length tests) place ≡ b → leb (suc (length tests)) (suc place) ≡ b
    by_test true e = grind (arith, nat_tests)
    by_test false e = grind (arith, nat_tests)

pub refuses_starts : RefusesStarts
refuses_starts state place stands = found_guard state.tests place (start_of state place) refused.UnknownTest refused.Stopped (λ test. refuses (is_some state.reason) _ stands)
  where
    refuses : (stopped : Bool) (more : Result State StepRefusal) → stopped ≡ true → cond stopped (Err refused.Stopped) more ≡ Err refused.Stopped
    refuses true more h = refl
    refuses false more h = cc

-- a reason at least as grave stands
abbrev Stands : CancelReason → State → Type 0
Stands reason state = (kept : CancelReason) × (state.reason ≡ Some kept) × (gravity reason ≤ gravity kept)

-- of two reasons the graver is as grave as the first
graver_is : (old new : CancelReason) → gravity old ≤ gravity (graver_reason old new)
graver_is old new = by_test (ltb (gravity old) (gravity new)) refl
  where
    by_test : (less : Bool) → ltb (gravity old) (gravity new) ≡ less → gravity old ≤ gravity (cond less new old)
    by_test true e = grind (arith, nat_tests)
    by_test false e = omega arith

-- a limit changes nothing where a reason stands
limited_is : (finished : Bool) (state : State) (reason : CancelReason) → state.reason ≡ Some reason → after_limit finished state ≡ state
limited_is finished state reason stands = by_test finished (is_some state.reason) (ap is_some stands)
  where
    by_test : (b some : Bool) → some ≡ true → cond (b && not some) (option_map_or (λ mode. stopped_by (limit_reason mode) state) (mode_at state.limit (failed_weight state.tests)) state) state ≡ state
    by_test true true h = refl
    by_test false some h = refl
    by_test true false h = cc

step_keeps : (old new : State) (event : Event) (reason : CancelReason) → Stands reason old → step old event ≡ Ok new → Stands reason new
step_keeps old new (events.ScriptEnded script ending) reason stands happens = let shows = script_shows old new script ending happens in let none = shows.going in let some = stands.1 in cc
step_keeps old new (events.Started place) reason stands happens = let shows = start_shows old new place happens in let none = shows.going in let some = stands.1 in cc
step_keeps old new (events.Ended place ending) reason stands happens =
    let shows = end_shows old new place ending happens in
    let same = shows.is ∙ limited_is (finishes old shows.test ending) (with_test old place (after_attempt old shows.test ending)) stands.0 stands.1 in
    subst (Stands reason) (sym same) stands
step_keeps old new (events.Stopped ending) reason stands happens =
    let free = guard_ok (is_inner ending) refused.InnerReason _ new happens in
    subst (Stands reason) (sym (ok_is _ new free.1)) (by_reason old.reason stands.1)
  where
    by_reason : (given : Option CancelReason) → given ≡ Some stands.0 → Stands reason (option_map_or (λ kept. record old { reason = Some (graver_reason kept ending) }) given (stopped_by ending old))
    by_reason None e = cc
    by_reason (Some kept) e =
        let same : kept ≡ stands.0 = cc in
        let more = graver_is kept ending in
        let less = stands.2 in
        let grave : gravity kept ≡ gravity stands.0 = ap gravity same in
        (graver_reason kept ending, refl, omega arith)

run_keeps : (old : State) (run : List Event) (new : State) (reason : CancelReason) → Stands reason old → Run old run new → Stands reason new
run_keeps old [] new reason stands happens = subst (Stands reason) (sym happens) stands
run_keeps old (event ∷ run) new reason stands happens = run_keeps happens.0 run new reason (step_keeps old happens.0 event reason stands happens.1) happens.2

pub keeps_a_reason : KeepsAReason
keeps_a_reason old new run reason stands happens = run_keeps old run new reason (reason, stands, omega arith) happens

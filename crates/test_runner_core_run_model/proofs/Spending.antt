-- How many events other than stops a run has at most.
use Rattle.std.proofs.Common.{suc, zero, ◌≡◌, ℕ, ◌+◌, ◌*◌, ◌<◌, ◌≤◌, Bool, true, false, cond, leb, not, ◌||◌, ◌&&◌, List, [], ◌∷◌, ◌++◌, length, Option, Some, None, Ok, map, refl, sym, ap, ◌∙◌, subst, arith, length-append, sum_by, count_by}
use Rattle.std.specs.Prelude.{slice_get, slice_set, is_some}
use Rattle.std.specs.Option.{option_map_or}
use Rattle.std.specs.List.{AllByRecursion}
use Rattle.std.proofs.lemmas.Bool.Decides.{nat_tests}
use Rattle.std.proofs.lemmas.List.Sums.{sum_by-cons}
use Rattle.nextest_config_elements_choices.specs.MaxFail.{mode_at}
use Rattle.nextest_config_elements_choices.specs.declared.max_fail.TerminateMode.{TerminateMode}
use Rattle.nextest_run_events_results.specs.Cancel.{graver_reason, is_inner}
use Rattle.nextest_run_events_results.specs.Result.{is_success}
use Rattle.nextest_run_events_results.specs.declared.cancel_reason.CancelReason.{CancelReason}
use Rattle.nextest_run_events_results.specs.declared.cancel_reason.CancelReason.TheVariants as why
use Rattle.nextest_run_events_results.specs.declared.record.Record.{Record}
use Rattle.test_runner_core_run_model.specs.declared.run_test.RunTest.{RunTest}
use Rattle.test_runner_core_run_model.specs.State.{TestState, State, initial, waiting, is_finished, is_finished_mark, is_running, is_running_mark, failed_weight}
use Rattle.test_runner_core_run_model.specs.Step.{step, with_test, after_attempt, finishes, finished_by, stopped_mark, after_limit, limit_reason, stopped_by}
use Rattle.test_runner_core_run_model.specs.Runs.{Run, is_no_stop}
use Rattle.test_runner_core_run_model.specs.Laws.{HasAtMost}
use Rattle.test_runner_core_run_model.specs.declared.mark.Mark.{Mark}
use Rattle.test_runner_core_run_model.specs.declared.mark.Mark.TheVariants as marks
use Rattle.test_runner_core_run_model.specs.declared.event.Event.{Event}
use Rattle.test_runner_core_run_model.specs.declared.event.Event.TheVariants as events
use Rattle.test_runner_core_run_model.specs.declared.step_refusal.StepRefusal.TheVariants as refused
use Rattle.test_runner_core_run_model.proofs.TestStates.{plan_of}
use Rattle.test_runner_core_run_model.proofs.Scripts.{guard_ok, ok_is}
use Rattle.test_runner_core_run_model.proofs.Keeping.{script_shows, start_shows, end_shows}
use Rattle.test_runner_core_run_model.proofs.WholeRuns.{planned_initial, run_planned}

-- ---- how many events a state shows

-- two for each attempt that ended, and one for an attempt that runs
abbrev seen : TestState → ℕ
seen test = 2 * length test.records + cond (is_running test) 1 0

abbrev shown : State → ℕ
shown state = length state.scripts + sum_by seen state.tests

seen_stopped : (reason : CancelReason) (test : TestState) → seen (finished_by reason test) ≡ seen test
seen_stopped reason test = ap (λ (b : Bool). 2 * length test.records + cond b 1 0) (by_mark test.mark)
  where
    by_mark : (mark : Mark) → is_running_mark (stopped_mark reason mark) ≡ is_running_mark mark
    by_mark marks.Waiting = refl
    by_mark marks.Running = refl
    by_mark marks.Between = refl
    by_mark (marks.Finished kept) = refl

all_seen_stopped : (reason : CancelReason) (tests : List TestState) → sum_by seen (map (finished_by reason) tests) ≡ sum_by seen tests
all_seen_stopped reason [] = refl
all_seen_stopped reason (test ∷ tests) =
    let here = seen_stopped reason test in
    let more = all_seen_stopped reason tests in
    rw (sum_by-cons seen (finished_by reason test) (map (finished_by reason) tests), sum_by-cons seen test tests) (omega (arith, here, more))

-- one event more at a test is one more among all
seen_set : (tests : List TestState) (place : ℕ) (old new : TestState) → slice_get tests place ≡ Some old → seen new ≡ seen old + 1
    → sum_by seen (slice_set tests place new) ≡ sum_by seen tests + 1
seen_set [] place old new found one_more = cc
seen_set (first ∷ tests) zero old new found one_more =
    let e : first ≡ old = cc in
    let here : seen new ≡ seen first + 1 = one_more ∙ sym (ap (λ (t : TestState). seen t + 1) e) in
    rw (sum_by-cons seen first tests, sum_by-cons seen new tests) (omega (arith, here))
seen_set (first ∷ tests) (suc place) old new found one_more =
    let more = seen_set tests place old new found one_more in
    rw (sum_by-cons seen first tests, sum_by-cons seen first (slice_set tests place new)) (omega (arith, more))

shown_stopped : (reason : CancelReason) (state : State) → shown (stopped_by reason state) ≡ shown state
shown_stopped reason state = ap (λ (n : ℕ). length state.scripts + n) (all_seen_stopped reason state.tests)

shown_limited : (finished : Bool) (state : State) → shown (after_limit finished state) ≡ shown state
shown_limited finished state = by_test (finished && not (is_some state.reason)) (mode_at state.limit (failed_weight state.tests))
  where
    by_test : (b : Bool) (reached : Option TerminateMode) → shown (cond b (option_map_or (λ mode. stopped_by (limit_reason mode) state) reached state) state) ≡ shown state
    by_test false reached = refl
    by_test true None = refl
    by_test true (Some mode) = shown_stopped (limit_reason mode) state

-- each step but a stop shows one event more
abbrev ShowsMore : State → State → ℕ → Type 0
ShowsMore old new more = shown new ≡ shown old + more

step_shows : (old new : State) (event : Event) → step old event ≡ Ok new → ShowsMore old new (cond (is_no_stop event) 1 0)
step_shows old new (events.ScriptEnded script ending) happens =
    let shows = script_shows old new script ending happens in
    ap shown shows.is ∙ by_success (is_success ending.result)
  where
    count : length (old.scripts ++ ending ∷ []) ≡ suc (length old.scripts)
    count = omega (arith, length-append old.scripts (ending ∷ []))

    one_more : shown (record old { scripts = old.scripts ++ ending ∷ [] }) ≡ shown old + 1
    one_more = let c = count in omega (arith, c)

    by_success : (succeeds : Bool)
        → shown (cond succeeds (record old { scripts = old.scripts ++ ending ∷ [] }) (stopped_by why.SetupScriptFailure (record old { scripts = old.scripts ++ ending ∷ [] }))) ≡ shown old + 1
    by_success true = one_more
    by_success false = shown_stopped why.SetupScriptFailure (record old { scripts = old.scripts ++ ending ∷ [] }) ∙ one_more
step_shows old new (events.Started place) happens =
    let shows = start_shows old new place happens in
    let test = shows.test in
    let running = record test { mark = marks.Running } in
    let was : seen test ≡ 2 * length test.records + 0 = ap (λ (b : Bool). 2 * length test.records + cond b 1 0) shows.idle in
    let one_more : seen running ≡ seen test + 1 = omega (arith, was) in
    let all = seen_set old.tests place test running shows.found one_more in
    ap shown shows.is ∙ omega (arith, all)
step_shows old new (events.Ended place ending) happens =
    let shows = end_shows old new place ending happens in
    let test = shows.test in
    let after = after_attempt old test ending in
    let was : seen test ≡ 2 * length test.records + 1 = ap (λ (b : Bool). 2 * length test.records + cond b 1 0) (ap is_running_mark shows.running) in
    let still : is_running after ≡ false = by_finished (finishes old test ending) in
    let count : length after.records ≡ length test.records + 1 = length-append test.records (ending ∷ []) in
    let now : seen after ≡ 2 * length after.records + 0 = ap (λ (b : Bool). 2 * length after.records + cond b 1 0) still in
    let one_more : seen after ≡ seen test + 1 = omega (arith, was, now, count) in
    let all = seen_set old.tests place test after shows.found one_more in
    ap shown shows.is ∙ shown_limited (finishes old test ending) (with_test old place after) ∙ omega (arith, all)
  where
    by_finished : (b : Bool) → is_running_mark (cond b (marks.Finished old.reason) marks.Between) ≡ false
    by_finished true = refl
    by_finished false = refl
step_shows old new (events.Stopped reason) happens =
    let free = guard_ok (is_inner reason) refused.InnerReason _ new happens in
    ap shown (ok_is _ new free.1) ∙ by_reason old.reason
  where
    by_reason : (given : Option CancelReason) → shown (option_map_or (λ kept. record old { reason = Some (graver_reason kept reason) }) given (stopped_by reason old)) ≡ shown old + 0
    by_reason None = let same = shown_stopped reason old in omega (arith, same)
    by_reason (Some kept) = omega arith

-- so a run has as many as its last state shows
run_shows : (old : State) (run : List Event) (new : State) → Run old run new → ShowsMore old new (count_by is_no_stop run)
run_shows old [] new happens = ap shown happens ∙ omega arith
run_shows old (event ∷ run) new happens =
    let first = step_shows old happens.0 event happens.1 in
    let more = run_shows happens.0 run new happens.2 in
    rw (sum_by-cons (λ e. cond (is_no_stop e) 1 0) event run) (omega (arith, first, more))

-- ---- how many that may be

-- a test that isn't finished has a try left, and a finished one took no more than it has
abbrev pub HasRoom : TestState → Type 0
HasRoom test = length test.records + cond (is_finished test) 0 1 ≤ test.plan.tries

room_set : (tests : List TestState) (place : ℕ) (new : TestState) → AllByRecursion HasRoom tests → HasRoom new → AllByRecursion HasRoom (slice_set tests place new)
room_set [] place new all room = tt
room_set (first ∷ tests) zero new all room = (room, all.1)
room_set (first ∷ tests) (suc place) new all room = (all.0, room_set tests place new all.1 room)

pub room_at : (tests : List TestState) (place : ℕ) (test : TestState) → AllByRecursion HasRoom tests → slice_get tests place ≡ Some test → HasRoom test
room_at [] place test all found = cc
room_at (first ∷ tests) zero test all found = let e : first ≡ test = cc in subst HasRoom e all.0
room_at (first ∷ tests) (suc place) test all found = room_at tests place test all.1 found

room_stopped : (reason : CancelReason) (tests : List TestState) → AllByRecursion HasRoom tests → AllByRecursion HasRoom (map (finished_by reason) tests)
room_stopped reason [] all = tt
room_stopped reason (test ∷ tests) all = (by_mark test.mark all.0, room_stopped reason tests all.1)
  where
    by_mark : (mark : Mark) → length test.records + cond (is_finished_mark mark) 0 1 ≤ test.plan.tries
        → length test.records + cond (is_finished_mark (stopped_mark reason mark)) 0 1 ≤ test.plan.tries
    by_mark marks.Waiting h = h
    by_mark marks.Running h = h
    by_mark marks.Between h = omega (arith, h)
    by_mark (marks.Finished kept) h = h

abbrev pub AllRoom : State → Type 0
AllRoom state = AllByRecursion HasRoom state.tests

room_limited : (finished : Bool) (state : State) → AllRoom state → AllRoom (after_limit finished state)
room_limited finished state all = by_test (finished && not (is_some state.reason)) (mode_at state.limit (failed_weight state.tests))
  where
    by_test : (b : Bool) (reached : Option TerminateMode) → AllRoom (cond b (option_map_or (λ mode. stopped_by (limit_reason mode) state) reached state) state)
    by_test false reached = all
    by_test true None = all
    by_test true (Some mode) = room_stopped (limit_reason mode) state.tests all

-- an attempt that ended took the try that was left, and where it doesn't finish its test there is
-- another
room_after : (state : State) (test : TestState) (ending : Record) → HasRoom test → is_finished test ≡ false → HasRoom (after_attempt state test ending)
room_after state test ending room unfinished =
    by_tests (is_success ending.result) (leb test.plan.tries (length test.records + 1)) (is_some state.reason) refl
  where
    count : length (test.records ++ ending ∷ []) ≡ length test.records + 1
    count = length-append test.records (ending ∷ [])

    left : length test.records + 1 ≤ test.plan.tries
    left = subst (λ (b : Bool). length test.records + cond b 0 1 ≤ test.plan.tries) unfinished room

    by_tests : (succeeds last some : Bool) → leb test.plan.tries (length test.records + 1) ≡ last
        → length (test.records ++ ending ∷ []) + cond (is_finished_mark (cond (succeeds || last || some) (marks.Finished state.reason) marks.Between)) 0 1 ≤ test.plan.tries
    by_tests true last some e = let c = count in let l = left in omega (arith, c, l)
    by_tests false true some e = let c = count in let l = left in omega (arith, c, l)
    by_tests false false true e = let c = count in let l = left in omega (arith, c, l)
    by_tests false false false e = let c = count in let l = left in grind (arith, nat_tests)

step_room : (old new : State) (event : Event) → AllRoom old → step old event ≡ Ok new → AllRoom new
step_room old new (events.ScriptEnded script ending) all happens =
    let shows = script_shows old new script ending happens in
    subst AllRoom (sym shows.is) (by_success (is_success ending.result))
  where
    by_success : (succeeds : Bool) → AllRoom (cond succeeds (record old { scripts = old.scripts ++ ending ∷ [] }) (stopped_by why.SetupScriptFailure (record old { scripts = old.scripts ++ ending ∷ [] })))
    by_success true = all
    by_success false = room_stopped why.SetupScriptFailure old.tests all
step_room old new (events.Started place) all happens =
    let shows = start_shows old new place happens in
    let test = shows.test in
    let room = subst (λ (b : Bool). length test.records + cond b 0 1 ≤ test.plan.tries) shows.unfinished (room_at old.tests place test all shows.found) in
    subst AllRoom (sym shows.is) (room_set old.tests place (record test { mark = marks.Running }) all room)
step_room old new (events.Ended place ending) all happens =
    let shows = end_shows old new place ending happens in
    let test = shows.test in
    let room = room_after old test ending (room_at old.tests place test all shows.found) (ap is_finished_mark shows.running) in
    subst AllRoom (sym shows.is)
    (room_limited (finishes old test ending) (with_test old place (after_attempt old test ending)) (room_set old.tests place (after_attempt old test ending) all room))
step_room old new (events.Stopped reason) all happens =
    let free = guard_ok (is_inner reason) refused.InnerReason _ new happens in
    subst AllRoom (sym (ok_is _ new free.1)) (by_reason old.reason)
  where
    by_reason : (given : Option CancelReason) → AllRoom (option_map_or (λ kept. record old { reason = Some (graver_reason kept reason) }) given (stopped_by reason old))
    by_reason None = room_stopped reason old.tests all
    by_reason (Some kept) = all

pub run_room : (old : State) (run : List Event) (new : State) → AllRoom old → Run old run new → AllRoom new
run_room old [] new all happens = subst AllRoom (sym happens) all
run_room old (event ∷ run) new all happens = run_room happens.0 run new (step_room old happens.0 event all happens.1) happens.2

pub room_initial : (tests : List RunTest) → AllByRecursion (λ test. 0 < test.tries) tests → AllByRecursion HasRoom (map waiting tests)
room_initial [] tries = tt
room_initial (test ∷ tests) tries = (let some = tries.0 in omega (arith, some), room_initial tests tries.1)

-- a test shows no more than two events for each of its tries
seen-le : (test : TestState) → HasRoom test → seen test ≤ 2 * test.plan.tries
seen-le test room = by_mark test.mark room
  where
    by_mark : (mark : Mark) → length test.records + cond (is_finished_mark mark) 0 1 ≤ test.plan.tries
        → 2 * length test.records + cond (is_running_mark mark) 1 0 ≤ 2 * test.plan.tries
    by_mark marks.Waiting h = omega (arith, h)
    by_mark marks.Running h = omega (arith, h)
    by_mark marks.Between h = omega (arith, h)
    by_mark (marks.Finished kept) h = omega (arith, h)

all_seen-le : (tests : List TestState) → AllByRecursion HasRoom tests → sum_by seen tests ≤ 2 * sum_by (λ test. test.tries) (map plan_of tests)
all_seen-le [] all = omega arith
all_seen-le (test ∷ tests) all =
    let here = seen-le test all.0 in
    let more = all_seen-le tests all.1 in
    rw (sum_by-cons seen test tests, sum_by-cons (λ (t : RunTest). t.tries) test.plan (map plan_of tests)) (omega (arith, here, more))

nothing_seen : (tests : List RunTest) → sum_by seen (map waiting tests) ≡ 0
nothing_seen [] = refl
nothing_seen (test ∷ tests) = let more = nothing_seen tests in rw (sum_by-cons seen (waiting test) (map waiting tests)) (omega (arith, more))

pub has_at_most : HasAtMost
has_at_most plan run last ok happens =
    let planned = run_planned plan (initial plan) run last (planned_initial plan) happens in
    let count = run_shows (initial plan) run last happens in
    let none = nothing_seen plan.tests in
    let scripts = planned.within in
    let number = planned.planned in
    let tests = subst (λ (ps : List RunTest). sum_by seen last.tests ≤ 2 * sum_by (λ test. test.tries) ps) planned.plans
    (all_seen-le last.tests (run_room (initial plan) run last (room_initial plan.tests ok.tries) happens)) in
    omega (arith, count, none, scripts, number, tests)

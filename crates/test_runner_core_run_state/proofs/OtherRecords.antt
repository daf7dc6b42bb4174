-- A run with other records of its tests, which end in the same way, goes as the run.
use Rattle.std.proofs.Common.{◌≡◌, ℕ, zero, suc, ◌+◌, ◌-◌, Bool, true, false, cond, ◌&&◌, ◌||◌, List, [], ◌∷◌, ◌++◌, length, map, Option, Some, None, Result, Ok, Err, refl, sym, ap, ◌∙◌}
use Rattle.std.specs.Prelude.{fold, not, nat_le, nat_lt, count_by, is_some, slice_get, slice_set, if◌then◌else◌, ◌==◌}
use Rattle.std.specs.List.{filter}
use Rattle.std.specs.Option.{option_map, option_map_or}
use Rattle.std.proofs.lemmas.List.{length-map, map-append}
use Rattle.std.proofs.lemmas.Option.{slice_get-map}
use Rattle.nextest_config_elements_choices.specs.MaxFail.{mode_at}
use Rattle.nextest_config_elements_choices.specs.declared.max_fail.TerminateMode.{TerminateMode}
use Rattle.nextest_config_elements_choices.specs.FailWeight.{capped}
use Rattle.nextest_run_events_counters.specs.Rows as rows
use Rattle.nextest_run_events_counters.specs.Rows.{Finished, fails_test}
use Rattle.nextest_run_events_results.specs.Cancel.{graver_reason, is_inner}
use Rattle.nextest_run_events_results.specs.Result.{is_success}
use Rattle.nextest_run_events_results.specs.declared.cancel_reason.CancelReason.{CancelReason}
use Rattle.nextest_run_events_results.specs.declared.cancel_reason.CancelReason.TheVariants as why
use Rattle.nextest_run_events_results.specs.declared.record.Record.{Record}
use Rattle.test_runner_core_run_model.specs.Counters.{counters}
use Rattle.test_runner_core_run_model.specs.Finishing.{KeepsReasons, finished_at, finishing, is_stopped_mark, newly_finished, places_among}
use Rattle.test_runner_core_run_model.specs.RunPlan.{RunPlan}
use Rattle.test_runner_core_run_model.specs.State.{State, TestState, counts, failed_weight, finished_as, initial, is_finished, last_record, waiting}
use Rattle.test_runner_core_run_model.specs.Step.{after_attempt, after_limit, after_script, attempt_ended, end_from, finished_by, finishes, limit_reason, script_ended, start_from, start_of, state_after_start, state_after_stop, step, stopped_by, with_test}
use Rattle.test_runner_core_run_model.specs.declared.event.Event.{Event}
use Rattle.test_runner_core_run_model.specs.declared.event.Event.TheVariants as events
use Rattle.test_runner_core_run_model.specs.declared.mark.Mark.{Mark}
use Rattle.test_runner_core_run_model.specs.declared.mark.Mark.TheVariants as marks
use Rattle.test_runner_core_run_model.specs.declared.run_test.RunTest.{RunTest}
use Rattle.test_runner_core_run_model.specs.declared.step_refusal.StepRefusal.{StepRefusal}
use Rattle.test_runner_core_run_model.specs.declared.step_refusal.StepRefusal.TheVariants as refused
use Rattle.test_runner_core_run_state.specs.Records.{event_with, is_place, state_with, tests_with, unwritten, unwritten_at, with_records}

-- a record keeps how it ended
abbrev pub KeepsEnd : (Record → Record) → Type 0
KeepsEnd kept = (told : Record) → ((kept told).result ≡ told.result) × ((kept told).slow ≡ told.slow) × ((kept told).nanos ≡ told.nanos)

-- at each place
abbrev pub KeepEnds : (ℕ → Record → Record) → Type 0
KeepEnds kept = (place : ℕ) → KeepsEnd (kept place)

-- ---- one test

pub last_with : (kept : Record → Record) (records : List Record) → last_record (map kept records) ≡ option_map kept (last_record records)
last_with kept records =
    ap (λ (n : ℕ). slice_get (map kept records) (n - 1)) (length-map records kept) ∙ slice_get-map kept records (length records - 1)

pub finished_with : (kept : Record → Record) → KeepsEnd kept → (test : TestState) (told : Record) → finished_as (with_records kept test) (kept told) ≡ finished_as test told
finished_with kept ends test told = λ i. record {
  result = (ends told).0 i;
  slow = (ends told).1 i;
  late = nat_lt 1 (length-map test.records kept i);
  flaky = test.plan.flaky;
}

pub counts_with : (kept : Record → Record) → KeepsEnd kept → (row : Finished → Bool) (test : TestState) → counts row (with_records kept test) ≡ counts row test
counts_with kept ends row test =
    ap (λ (last : Option Record). is_finished test && option_map_or (λ told. row (finished_as (with_records kept test) told)) last false) (last_with kept test.records)
    ∙ by_last (last_record test.records)
  where
    by_last : (last : Option Record) →
        (is_finished test && option_map_or (λ told. row (finished_as (with_records kept test) told)) (option_map kept last) false)
        ≡ (is_finished test && option_map_or (λ told. row (finished_as test told)) last false)
    by_last None = refl
    by_last (Some told) = ap (λ (it : Finished). is_finished test && row it) (finished_with kept ends test told)

-- ---- all tests

pub get_with : (kept : ℕ → Record → Record) (tests : List TestState) (place : ℕ) → slice_get (tests_with kept tests) place ≡ option_map (with_records (kept place)) (slice_get tests place)
get_with kept [] place = refl
get_with kept (test ∷ tests) zero = refl
get_with kept (test ∷ tests) (suc place) = get_with (λ p. kept (suc p)) tests place

pub set_with : (kept : ℕ → Record → Record) (tests : List TestState) (place : ℕ) (test : TestState)
    → slice_set (tests_with kept tests) place (with_records (kept place) test) ≡ tests_with kept (slice_set tests place test)
set_with kept [] place test = refl
set_with kept (first ∷ tests) zero test = refl
set_with kept (first ∷ tests) (suc place) test = ap (λ (more : List TestState). with_records (kept zero) first ∷ more) (set_with (λ p. kept (suc p)) tests place test)

pub length_with : (kept : ℕ → Record → Record) (tests : List TestState) → length (tests_with kept tests) ≡ length tests
length_with kept [] = refl
length_with kept (test ∷ tests) = let more = length_with (λ p. kept (suc p)) tests in cc

pub fold_with : (kept : ℕ → Record → Record) (of : TestState → ℕ) → ((place : ℕ) (test : TestState) → of (with_records (kept place) test) ≡ of test)
    → (tests : List TestState) (sum : ℕ) → fold (λ a test. a + of test) sum (tests_with kept tests) ≡ fold (λ a test. a + of test) sum tests
fold_with kept of same [] sum = refl
fold_with kept of same (test ∷ tests) sum =
    fold_with (λ p. kept (suc p)) of (λ p. same (suc p)) tests (sum + of (with_records (kept zero) test))
    ∙ ap (λ (n : ℕ). fold (λ a test. a + of test) (sum + n) tests) (same zero test)

pub count_with : (kept : ℕ → Record → Record) → KeepEnds kept → (row : Finished → Bool) (tests : List TestState) → count_by (counts row) (tests_with kept tests) ≡ count_by (counts row) tests
count_with kept ends row tests =
    fold_with kept (λ test. cond (counts row test) 1 0) (λ place test. ap (λ (b : Bool). cond b 1 0) (counts_with (kept place) (ends place) row test)) tests 0

weight_with : (kept : ℕ → Record → Record) → KeepEnds kept → (tests : List TestState) → failed_weight (tests_with kept tests) ≡ failed_weight tests
weight_with kept ends tests =
    fold_with kept (λ test. if counts fails_test test then test.plan.weight else 0)
    (λ place test. ap (λ (b : Bool). if b then test.plan.weight else 0) (counts_with (kept place) (ends place) fails_test test)) tests 0

finished_by_with : (kept : ℕ → Record → Record) (reason : CancelReason) (tests : List TestState) → tests_with kept (map (finished_by reason) tests) ≡ map (finished_by reason) (tests_with kept tests)
finished_by_with kept reason [] = refl
finished_by_with kept reason (test ∷ tests) =
    ap (λ (more : List TestState). with_records (kept zero) (finished_by reason test) ∷ more) (finished_by_with (λ p. kept (suc p)) reason tests)

waiting_with : (kept : ℕ → Record → Record) (tests : List RunTest) → tests_with kept (map waiting tests) ≡ map waiting tests
waiting_with kept [] = refl
waiting_with kept (test ∷ tests) = ap (λ (more : List TestState). waiting test ∷ more) (waiting_with (λ p. kept (suc p)) tests)

pub initial_with : (kept : ℕ → Record → Record) (plan : RunPlan) → initial plan ≡ state_with kept (initial plan)
initial_with kept plan = ap (λ (tests : List TestState). record (initial plan) { tests = tests }) (sym (waiting_with kept plan.tests))

-- ---- its steps

-- what a step comes to, with other records
abbrev pub result_with : (ℕ → Record → Record) → Result State StepRefusal → Result State StepRefusal
result_with kept (Ok state) = Ok (state_with kept state)
result_with kept (Err refusal) = Err refusal

stopped_with : (kept : ℕ → Record → Record) (reason : CancelReason) (state : State) → stopped_by reason (state_with kept state) ≡ state_with kept (stopped_by reason state)
stopped_with kept reason state = ap (λ (tests : List TestState). record state { tests = tests; reason = Some reason }) (sym (finished_by_with kept reason state.tests))

script_with : (kept : ℕ → Record → Record) (state : State) (script : ℕ) (told : Record) → script_ended (state_with kept state) script told ≡ result_with kept (script_ended state script told)
script_with kept state script told = by_tests (nat_le state.planned_scripts script) (is_some state.reason) (not (script == length state.scripts))
  where
    by_success : (b : Bool) →
        (if b then state_with kept (record state { scripts = state.scripts ++ told ∷ [] }) else stopped_by why.SetupScriptFailure (state_with kept (record state { scripts = state.scripts ++ told ∷ [] })))
        ≡ state_with kept (if b then record state { scripts = state.scripts ++ told ∷ [] } else stopped_by why.SetupScriptFailure (record state { scripts = state.scripts ++ told ∷ [] }))
    by_success true = refl
    by_success false = stopped_with kept why.SetupScriptFailure (record state { scripts = state.scripts ++ told ∷ [] })

    by_tests : (a b c : Bool) →
        (if a then Err refused.UnknownScript else if b then Err refused.Stopped else if c then Err refused.OutOfOrder else Ok (after_script (state_with kept state) told))
        ≡ result_with kept (if a then Err refused.UnknownScript else if b then Err refused.Stopped else if c then Err refused.OutOfOrder else Ok (after_script state told))
    by_tests true b c = refl
    by_tests false true c = refl
    by_tests false false true = refl
    by_tests false false false = ap (λ (s : State). Ok s) (by_success (is_success told.result))

start_with : (kept : ℕ → Record → Record) (state : State) (place : ℕ) → state_after_start (state_with kept state) place ≡ result_with kept (state_after_start state place)
start_with kept state place =
    ap (λ (found : Option TestState). option_map_or (start_of (state_with kept state) place) found (Err refused.UnknownTest)) (get_with kept state.tests place)
    ∙ by_found (slice_get state.tests place)
  where
    by_mark : (test : TestState) (mark : Mark) → start_from (state_with kept state) place (with_records (kept place) test) mark ≡ result_with kept (start_from state place test mark)
    by_mark test marks.Waiting = ap (λ (tests : List TestState). Ok (record state { tests = tests })) (set_with kept state.tests place (record test { mark = marks.Running }))
    by_mark test marks.Running = refl
    by_mark test marks.Between = ap (λ (tests : List TestState). Ok (record state { tests = tests })) (set_with kept state.tests place (record test { mark = marks.Running }))
    by_mark test (marks.Finished reason) = refl

    by_tests : (test : TestState) (a b : Bool) →
        (if a then Err refused.Stopped else if b then Err refused.ScriptsPending else start_from (state_with kept state) place (with_records (kept place) test) test.mark)
        ≡ result_with kept (if a then Err refused.Stopped else if b then Err refused.ScriptsPending else start_from state place test test.mark)
    by_tests test true b = refl
    by_tests test false true = refl
    by_tests test false false = by_mark test test.mark

    by_found : (found : Option TestState) →
        option_map_or (start_of (state_with kept state) place) (option_map (with_records (kept place)) found) (Err refused.UnknownTest)
        ≡ result_with kept (option_map_or (start_of state place) found (Err refused.UnknownTest))
    by_found None = refl
    by_found (Some test) = by_tests test (is_some state.reason) (nat_lt (length state.scripts) state.planned_scripts)

limit_with : (kept : ℕ → Record → Record) → KeepEnds kept → (finished : Bool) (state : State) → after_limit finished (state_with kept state) ≡ state_with kept (after_limit finished state)
limit_with kept ends finished state = by_test (finished && not (is_some state.reason))
  where
    by_mode : (mode : Option TerminateMode) →
        option_map_or (λ mode. stopped_by (limit_reason mode) (state_with kept state)) mode (state_with kept state)
        ≡ state_with kept (option_map_or (λ mode. stopped_by (limit_reason mode) state) mode state)
    by_mode None = refl
    by_mode (Some mode) = stopped_with kept (limit_reason mode) state

    by_test : (b : Bool) →
        (if b then option_map_or (λ mode. stopped_by (limit_reason mode) (state_with kept state)) (mode_at state.limit (failed_weight (tests_with kept state.tests))) (state_with kept state) else state_with kept state)
        ≡ state_with kept (if b then option_map_or (λ mode. stopped_by (limit_reason mode) state) (mode_at state.limit (failed_weight state.tests)) state else state)
    by_test true =
        ap (λ (n : ℕ). option_map_or (λ mode. stopped_by (limit_reason mode) (state_with kept state)) (mode_at state.limit n) (state_with kept state)) (weight_with kept ends state.tests)
        ∙ by_mode (mode_at state.limit (failed_weight state.tests))
    by_test false = refl

end_with : (kept : ℕ → Record → Record) → KeepEnds kept → (state : State) (place : ℕ) (told : Record)
    → attempt_ended (state_with kept state) place (kept place told) ≡ result_with kept (attempt_ended state place told)
end_with kept ends state place told =
    ap (λ (found : Option TestState). option_map_or (λ test. end_from (state_with kept state) place (kept place told) test test.mark) found (Err refused.UnknownTest)) (get_with kept state.tests place)
    ∙ by_found (slice_get state.tests place)
  where
    same_finish : (test : TestState) → finishes (state_with kept state) (with_records (kept place) test) (kept place told) ≡ finishes state test told
    same_finish test = λ i. is_success ((ends place told).0 i) || nat_le test.plan.tries (length-map test.records (kept place) i + 1) || is_some state.reason

    same_test : (test : TestState) (mark : Mark) →
        with_test (state_with kept state) place (record test { records = map (kept place) test.records ++ kept place told ∷ []; mark = mark })
        ≡ state_with kept (with_test state place (record test { records = test.records ++ told ∷ []; mark = mark }))
    same_test test mark =
        ap (λ (records : List Record). with_test (state_with kept state) place (record test { records = records; mark = mark })) (sym (map-append (kept place) test.records (told ∷ [])))
        ∙ ap (λ (tests : List TestState). record state { tests = tests }) (set_with kept state.tests place (record test { records = test.records ++ told ∷ []; mark = mark }))

    by_mark : (test : TestState) (mark : Mark) →
        end_from (state_with kept state) place (kept place told) (with_records (kept place) test) mark ≡ result_with kept (end_from state place told test mark)
    by_mark test marks.Waiting = refl
    by_mark test marks.Running =
        ap (λ (b : Bool). Ok (after_limit b (with_test (state_with kept state) place
        (record test { records = map (kept place) test.records ++ kept place told ∷ []; mark = if b then marks.Finished state.reason else marks.Between })))) (same_finish test)
        ∙ ap (λ (s : State). Ok (after_limit (finishes state test told) s)) (same_test test (if finishes state test told then marks.Finished state.reason else marks.Between))
        ∙ ap (λ (s : State). Ok s) (limit_with kept ends (finishes state test told) (with_test state place (after_attempt state test told)))
    by_mark test marks.Between = refl
    by_mark test (marks.Finished reason) = refl

    by_found : (found : Option TestState) →
        option_map_or (λ test. end_from (state_with kept state) place (kept place told) test test.mark) (option_map (with_records (kept place)) found) (Err refused.UnknownTest)
        ≡ result_with kept (option_map_or (λ test. end_from state place told test test.mark) found (Err refused.UnknownTest))
    by_found None = refl
    by_found (Some test) = by_mark test test.mark

stop_with : (kept : ℕ → Record → Record) (state : State) (new : CancelReason) → state_after_stop (state_with kept state) new ≡ result_with kept (state_after_stop state new)
stop_with kept state new = by_inner (is_inner new)
  where
    by_reason : (reason : Option CancelReason) →
        option_map_or (λ old. record (state_with kept state) { reason = Some (graver_reason old new) }) reason (stopped_by new (state_with kept state))
        ≡ state_with kept (option_map_or (λ old. record state { reason = Some (graver_reason old new) }) reason (stopped_by new state))
    by_reason None = stopped_with kept new state
    by_reason (Some old) = refl

    by_inner : (b : Bool) →
        (if b then Err refused.InnerReason else Ok (option_map_or (λ old. record (state_with kept state) { reason = Some (graver_reason old new) }) state.reason (stopped_by new (state_with kept state))))
        ≡ result_with kept (if b then Err refused.InnerReason else Ok (option_map_or (λ old. record state { reason = Some (graver_reason old new) }) state.reason (stopped_by new state)))
    by_inner true = refl
    by_inner false = ap (λ (s : State). Ok s) (by_reason state.reason)

step_with : (kept : ℕ → Record → Record) → KeepEnds kept → (state : State) (event : Event) → step (state_with kept state) (event_with kept event) ≡ result_with kept (step state event)
step_with kept ends state (events.ScriptEnded script told) = script_with kept state script told
step_with kept ends state (events.Started test) = start_with kept state test
step_with kept ends state (events.Ended test told) = end_with kept ends state test told
step_with kept ends state (events.Stopped reason) = stop_with kept state reason

-- a step that is taken with other records is taken with those that were told
pub taken_with : (kept : ℕ → Record → Record) → KeepEnds kept → (state now next : State) (event : Event) → now ≡ state_with kept state → step now (event_with kept event) ≡ Ok next
    → (real : State) × (step state event ≡ Ok real) × (next ≡ state_with kept real)
taken_with kept ends state now next event is taken = by_step (step state event) refl
  where
    whole : result_with kept (step state event) ≡ Ok next
    whole = sym (step_with kept ends state event) ∙ ap (λ (s : State). step s (event_with kept event)) (sym is) ∙ taken

    by_step : (found : Result State StepRefusal) → step state event ≡ found → (real : State) × (step state event ≡ Ok real) × (next ≡ state_with kept real)
    by_step (Ok real) e = (real, e, let h : Ok (state_with kept real) ≡ Ok next = ap (result_with kept) (sym e) ∙ whole in cc)
    by_step (Err refusal) e = absurd (let h : Err refusal ≡ Ok next = ap (result_with kept) (sym e) ∙ whole in cc)

pub refused_with : (kept : ℕ → Record → Record) → KeepEnds kept → (state now : State) (event : Event) (refusal : StepRefusal) → now ≡ state_with kept state → step now (event_with kept event) ≡ Err refusal
    → step state event ≡ Err refusal
refused_with kept ends state now event refusal is never = by_step (step state event) refl
  where
    whole : result_with kept (step state event) ≡ Err refusal
    whole = sym (step_with kept ends state event) ∙ ap (λ (s : State). step s (event_with kept event)) (sym is) ∙ never

    by_step : (found : Result State StepRefusal) → step state event ≡ found → step state event ≡ Err refusal
    by_step (Ok real) e = absurd (let h : Ok (state_with kept real) ≡ Err refusal = ap (result_with kept) (sym e) ∙ whole in cc)
    by_step (Err other) e = e ∙ ap (result_with kept) (sym e) ∙ whole

-- ---- without what the attempts of one test wrote

pub unwritten_ends : (place : ℕ) → KeepEnds (unwritten_at place)
unwritten_ends place other told = by_test (is_place place other)
  where
    by_test : (b : Bool) →
        ((if b then unwritten told else told).result ≡ told.result)
        × ((if b then unwritten told else told).slow ≡ told.slow)
        × ((if b then unwritten told else told).nanos ≡ told.nanos)
    by_test true = (refl, refl, refl)
    by_test false = (refl, refl, refl)

same_records : (records : List Record) → map (λ (told : Record). told) records ≡ records
same_records [] = refl
same_records (told ∷ records) = ap (λ (more : List Record). told ∷ more) (same_records records)

same_tests : (tests : List TestState) → tests_with (λ place told. told) tests ≡ tests
same_tests [] = refl
same_tests (test ∷ tests) = λ i. record test { records = same_records test.records i } ∷ same_tests tests i

-- the test at a place, with nothing that its attempts wrote, among the others
pub set_unwritten : (tests : List TestState) (place : ℕ) (test : TestState) → slice_get tests place ≡ Some test
    → slice_set tests place (with_records unwritten test) ≡ tests_with (unwritten_at place) tests
set_unwritten [] place test found = absurd (let e = found in cc)
set_unwritten (first ∷ tests) zero test found =
    ap (λ (t : TestState). with_records unwritten t ∷ tests) (let e = found in cc)
    ∙ ap (λ (more : List TestState). with_records unwritten first ∷ more) (sym (same_tests tests))
set_unwritten (first ∷ tests) (suc place) test found =
    ap (λ (records : List Record). record first { records = records } ∷ slice_set tests place (with_records unwritten test)) (sym (same_records first.records))
    ∙ ap (λ (more : List TestState). with_records (λ told. told) first ∷ more) (set_unwritten tests place test found)

-- there is no such place
pub none_unwritten : (tests : List TestState) (place : ℕ) → slice_get tests place ≡ None → tests ≡ tests_with (unwritten_at place) tests
none_unwritten [] place none = refl
none_unwritten (first ∷ tests) zero none = absurd (let e = none in cc)
none_unwritten (first ∷ tests) (suc place) none =
    ap (λ (records : List Record). record first { records = records } ∷ tests) (sym (same_records first.records))
    ∙ ap (λ (more : List TestState). with_records (λ told. told) first ∷ more) (none_unwritten tests place none)

-- ---- what it finishes, and its counters

pub finished_at_with : (kept : ℕ → Record → Record) (tests : List TestState) (place : ℕ) → finished_at (tests_with kept tests) place ≡ finished_at tests place
finished_at_with kept tests place = ap (λ (found : Option TestState). option_map_or is_finished found false) (get_with kept tests place) ∙ by_found (slice_get tests place)
  where
    by_found : (found : Option TestState) → option_map_or is_finished (option_map (with_records (kept place)) found) false ≡ option_map_or is_finished found false
    by_found None = refl
    by_found (Some test) = refl

newly_with : (kept : ℕ → Record → Record) (old new : State) → newly_finished (state_with kept old) (state_with kept new) ≡ newly_finished old new
newly_with kept old new = λ i. places_among (λ place. finished_at_with kept new.tests place i && not (finished_at_with kept old.tests place i)) (length_with kept new.tests i)

pub finishing_with : (kept : ℕ → Record → Record) (event : Event) (old new : State) → finishing (event_with kept event) (state_with kept old) (state_with kept new) ≡ finishing event old new
finishing_with kept (events.ScriptEnded script told) old new = newly_with kept old new
finishing_with kept (events.Started test) old new = newly_with kept old new
finishing_with kept (events.Ended test told) old new =
    ap (λ (places : List ℕ). filter (λ place. place == test) places ++ filter (λ place. not (place == test)) places) (newly_with kept old new)
finishing_with kept (events.Stopped reason) old new = newly_with kept old new

pub reasons_with : (kept : ℕ → Record → Record) (state : State) → KeepsReasons state → KeepsReasons (state_with kept state)
reasons_with kept state keeps none place =
    ap (λ (found : Option TestState). option_map_or (λ test. is_stopped_mark test.mark) found false) (get_with kept state.tests place) ∙ by_found (slice_get state.tests place) ∙ keeps none place
  where
    by_found : (found : Option TestState) →
        option_map_or (λ test. is_stopped_mark test.mark) (option_map (with_records (kept place)) found) false ≡ option_map_or (λ test. is_stopped_mark test.mark) found false
    by_found None = refl
    by_found (Some test) = refl

pub counters_with : (kept : ℕ → Record → Record) → KeepEnds kept → (state : State) → counters (state_with kept state) ≡ counters state
counters_with kept ends state = λ i. record (counters state) {
  initial_run_count = length_with kept state.tests i;
  finished_count = fold_with kept (λ test. cond (is_finished test) 1 0) (λ place test. refl) state.tests 0 i;
  passed = count_with kept ends rows.is_passed state.tests i;
  passed_slow = count_with kept ends rows.passed_slow state.tests i;
  passed_timed_out = count_with kept ends rows.passed_timed_out state.tests i;
  flaky = count_with kept ends rows.flaky state.tests i;
  failed = count_with kept ends rows.is_failed state.tests i;
  failed_slow = count_with kept ends rows.failed_slow state.tests i;
  failed_timed_out = count_with kept ends rows.failed_timed_out state.tests i;
  leaky = count_with kept ends rows.leaky state.tests i;
  leaky_failed = count_with kept ends rows.leaky_failed state.tests i;
  exec_failed = count_with kept ends rows.exec_failed state.tests i;
  failed_weight = capped (weight_with kept ends state.tests i);
}

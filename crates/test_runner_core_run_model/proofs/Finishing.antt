-- Which tests a step finishes: that whose attempt ended, and where it stops the run also those that
-- it finds between two attempts, which from then on are all that are over under a reason.
use Rattle.std.proofs.Common.{suc, zero, ◌≡◌, ℕ, ◌+◌, ◌<◌, ◌≤◌, Bool, true, false, cond, eqb, not, ◌&&◌, List, [], ◌∷◌, ◌++◌, length, Option, Some, None, Ok, map, refl, sym, ap, ◌∙◌, subst, arith, inl, inr}
use Rattle.std.specs.Prelude.{slice_get, slice_set, is_some}
use Rattle.std.specs.List.{filter, range_with_len}
use Rattle.std.specs.Option.{option_map, option_map_or}
use Rattle.std.proofs.lemmas.Bool.{cases_eq, eq-eqb, ne_eqb}
use Rattle.std.proofs.lemmas.List.{append-nil, length-map, length-set}
use Rattle.std.proofs.lemmas.List.Elements.{filter-append, filter_agree}
use Rattle.std.proofs.lemmas.Option.{slice_get-map, slice_get_within}
use Rattle.nextest_config_elements_choices.specs.MaxFail.{mode_at}
use Rattle.nextest_config_elements_choices.specs.declared.max_fail.TerminateMode.{TerminateMode}
use Rattle.nextest_run_events_results.specs.Cancel.{graver_reason, is_inner}
use Rattle.nextest_run_events_results.specs.Result.{is_success}
use Rattle.nextest_run_events_results.specs.declared.cancel_reason.CancelReason.{CancelReason}
use Rattle.nextest_run_events_results.specs.declared.cancel_reason.CancelReason.TheVariants as why
use Rattle.nextest_run_events_results.specs.declared.record.Record.{Record}
use Rattle.test_runner_core_run_model.specs.RunPlan.{RunPlan}
use Rattle.test_runner_core_run_model.specs.Runs.{Run}
use Rattle.test_runner_core_run_model.specs.State.{TestState, State, initial, waiting, is_finished, is_finished_mark, failed_weight}
use Rattle.test_runner_core_run_model.specs.Step.{step, with_test, finished_by, stopped_mark, stopped_by, after_attempt, finishes, after_limit, limit_reason}
use Rattle.test_runner_core_run_model.specs.Finishing.{places_among, finished_at, newly_finished_at, newly_finished, finishing, stops_run, is_stopped_mark, is_stopped_at, stopped_places, finished_places, KeepsReasons}
use Rattle.test_runner_core_run_model.specs.declared.event.Event.{Event}
use Rattle.test_runner_core_run_model.specs.declared.event.Event.TheVariants as events
use Rattle.test_runner_core_run_model.specs.declared.finished.Finished.{Finished}
use Rattle.test_runner_core_run_model.specs.declared.mark.Mark.{Mark}
use Rattle.test_runner_core_run_model.specs.declared.mark.Mark.TheVariants as marks
use Rattle.test_runner_core_run_model.specs.declared.run_test.RunTest.{RunTest}
use Rattle.test_runner_core_run_model.specs.declared.step_refusal.StepRefusal.TheVariants as refused
use Rattle.test_runner_core_run_model.proofs.Keeping.{script_shows, start_shows, end_shows}
use Rattle.test_runner_core_run_model.proofs.Scripts.{guard_ok, ok_is}

-- ---- tests of truth

and_true : (b : Bool) → (b && true) ≡ b
and_true true = refl
and_true false = refl

and_false : (b : Bool) → (b && false) ≡ false
and_false true = refl
and_false false = refl

and_not : (b : Bool) → (b && not b) ≡ false
and_not true = refl
and_not false = refl

not_and : (b : Bool) → (not b && b) ≡ false
not_and true = refl
not_and false = refl

both_true : (a b : Bool) → (a && not b) ≡ true → (a ≡ true) × (b ≡ false)
both_true true true h = cc
both_true true false h = (refl, refl)
both_true false b h = cc

no_reason : {X : Type 0} (o : Option X) → is_some o ≡ false → o ≡ None
no_reason None h = refl
no_reason (Some x) h = cc

-- ---- places that pass a test

filter_none : {X : Type 0} (p : X → Bool) (xs : List X) → ((x : X) → p x ≡ false) → filter p xs ≡ []
filter_none p [] none = refl
filter_none p (x ∷ xs) none = ap (λ (b : Bool). cond b (x ∷ filter p xs) (filter p xs)) (none x) ∙ filter_none p xs none

filter_twice : {X : Type 0} (p q : X → Bool) (xs : List X) → filter q (filter p xs) ≡ filter (λ x. p x && q x) xs
filter_twice p q [] = refl
filter_twice {X = X} p q (x ∷ xs) = by_first (p x) (filter_twice p q xs)
  where
    by_first : (b : Bool) → filter q (filter p xs) ≡ filter (λ y. p y && q y) xs
        → filter q (cond b (x ∷ filter p xs) (filter p xs)) ≡ cond (b && q x) (x ∷ filter (λ y. p y && q y) xs) (filter (λ y. p y && q y) xs)
    by_first true more = ap (λ (l : List X). cond (q x) (x ∷ l) l) more
    by_first false more = more

-- none of the places behind one is that one
none_behind : (f : ℕ → Bool) (a n place : ℕ) → place < a → filter (λ p. f p && eqb p place) (range_with_len a n) ≡ []
none_behind f a zero place less = refl
none_behind f a (suc n) place less =
    ap (λ (b : Bool). cond b (a ∷ filter (λ p. f p && eqb p place) (range_with_len (a + 1) n)) (filter (λ p. f p && eqb p place) (range_with_len (a + 1) n)))
    (ap (λ (b : Bool). f a && b) (ne_eqb a place (λ e. omega (arith, less, e))) ∙ and_false (f a))
    ∙ none_behind f (a + 1) n place (omega (arith, less))

-- of the places, one is that one
only : (f : ℕ → Bool) (a n place : ℕ) → a ≤ place → place < a + n → filter (λ p. f p && eqb p place) (range_with_len a n) ≡ cond (f place) (place ∷ []) []
only f a zero place from below = absurd (omega (arith, from, below))
only f a (suc n) place from below =
    elim (cases_eq a place) [
      | inl e ↦
          ap (λ (b : Bool). cond (f a && b) (a ∷ behind) behind) (eq-eqb a place e)
          ∙ ap (λ (b : Bool). cond b (a ∷ behind) behind) (and_true (f a))
          ∙ ap (λ (l : List ℕ). cond (f a) (a ∷ l) l) (none_behind f (a + 1) n place (omega (arith, e)))
          ∙ ap (λ (p : ℕ). cond (f p) (p ∷ []) []) e
      | inr other ↦
          ap (λ (b : Bool). cond (f a && b) (a ∷ behind) behind) (ne_eqb a place other)
          ∙ ap (λ (b : Bool). cond b (a ∷ behind) behind) (and_false (f a))
          ∙ only f (a + 1) n place (omega (arith, from, other)) (omega (arith, below))
    ]
  where
    behind : List ℕ
    behind = filter (λ p. f p && eqb p place) (range_with_len (a + 1) n)

range_more : (a n j : ℕ) → a + n ≡ j → range_with_len a (suc n) ≡ range_with_len a n ++ j ∷ []
range_more a zero j e = let same : a ≡ j = omega (arith, e) in ap (λ (p : ℕ). p ∷ []) same
range_more a (suc n) j e = ap (λ (l : List ℕ). a ∷ l) (range_more (a + 1) n j (omega (arith, e)))

-- the places that pass among one place more
pub places_more : (passes : ℕ → Bool) (count : ℕ) → places_among passes (count + 1) ≡ places_among passes count ++ cond (passes count) (count ∷ []) []
places_more passes count =
    let on : count + 1 ≡ suc count = omega arith in
    let last : 0 + count ≡ count = omega arith in
    ap (places_among passes) on
    ∙ ap (filter passes) (range_more 0 count count last)
    ∙ filter-append passes (range_with_len 0 count) (count ∷ [])

-- ---- tests at their places

fused : {X : Type 0} (p : X → Bool) (f : X → X) (o : Option X) → option_map_or p (option_map f o) false ≡ option_map_or (λ x. p (f x)) o false
fused p f None = refl
fused p f (Some x) = refl

at_map : {X : Type 0} (p : X → Bool) (f : X → X) (xs : List X) (place : ℕ)
    → option_map_or p (slice_get (map f xs) place) false ≡ option_map_or (λ x. p (f x)) (slice_get xs place) false
at_map {X = X} p f xs place = ap (λ (o : Option X). option_map_or p o false) (slice_get-map f xs place) ∙ fused p f (slice_get xs place)

set_here : {X : Type 0} (xs : List X) (place : ℕ) (old new : X) → slice_get xs place ≡ Some old → slice_get (slice_set xs place new) place ≡ Some new
set_here [] place old new found = cc
set_here (x ∷ xs) zero old new found = refl
set_here (x ∷ xs) (suc place) old new found = set_here xs place old new found

set_elsewhere : {X : Type 0} (xs : List X) (place p : ℕ) (new : X) → (p ≡ place → ⊥) → slice_get (slice_set xs place new) p ≡ slice_get xs p
set_elsewhere [] place p new other = refl
set_elsewhere (x ∷ xs) zero zero new other = absurd (other refl)
set_elsewhere (x ∷ xs) zero (suc p) new other = refl
set_elsewhere (x ∷ xs) (suc place) zero new other = refl
set_elsewhere (x ∷ xs) (suc place) (suc p) new other = set_elsewhere xs place p new (λ e. other (ap suc e))

-- a test that is at a place
pub stopped_there : (tests : List TestState) (place : ℕ) (test : TestState) → slice_get tests place ≡ Some test → is_stopped_at tests place ≡ is_stopped_mark test.mark
stopped_there tests place test found = ap (λ (o : Option TestState). option_map_or (λ t. is_stopped_mark t.mark) o false) found

pub finished_there : (tests : List TestState) (place : ℕ) (test : TestState) → slice_get tests place ≡ Some test → finished_at tests place ≡ is_finished test
finished_there tests place test found = ap (λ (o : Option TestState). option_map_or is_finished o false) found

-- a walk over the places: those that are over under a reason, with one test more
pub stopped_more : (tests : List TestState) (count : ℕ) (test : TestState) → slice_get tests count ≡ Some test
    → places_among (is_stopped_at tests) (count + 1) ≡ places_among (is_stopped_at tests) count ++ cond (is_stopped_mark test.mark) (count ∷ []) []
stopped_more tests count test found =
    places_more (is_stopped_at tests) count
    ∙ ap (λ (b : Bool). places_among (is_stopped_at tests) count ++ cond b (count ∷ []) []) (stopped_there tests count test found)

-- ---- what stays and what a stop does, place by place

-- a test that is as it was isn't newly finished
stays : (old new : List TestState) (place : ℕ) → slice_get new place ≡ slice_get old place → newly_finished_at old new place ≡ false
stays old new place same =
    ap (λ (o : Option TestState). option_map_or is_finished o false && not (finished_at old place)) same ∙ and_not (finished_at old place)

stop_of_mark : (reason : CancelReason) (mark : Mark) → is_stopped_mark mark ≡ false
    → (is_finished_mark (stopped_mark reason mark) && not (is_finished_mark mark)) ≡ is_stopped_mark (stopped_mark reason mark)
stop_of_mark reason marks.Waiting none = refl
stop_of_mark reason marks.Running none = refl
stop_of_mark reason marks.Between none = refl
stop_of_mark reason (marks.Finished kept) none = sym none

stop_of_test : (reason : CancelReason) (o : Option TestState) → option_map_or (λ t. is_stopped_mark t.mark) o false ≡ false
    → (option_map_or (λ t. is_finished (finished_by reason t)) o false && not (option_map_or is_finished o false)) ≡ option_map_or (λ t. is_stopped_mark (finished_by reason t).mark) o false
stop_of_test reason None none = refl
stop_of_test reason (Some test) none = stop_of_mark reason test.mark none

-- a stop finishes the tests that are over under a reason from then on, of those that are as they
-- were
stop_at : (reason : CancelReason) (old mid : List TestState) (place : ℕ) → slice_get mid place ≡ slice_get old place → is_stopped_at old place ≡ false
    → newly_finished_at old (map (finished_by reason) mid) place ≡ is_stopped_at (map (finished_by reason) mid) place
stop_at reason old mid place same none =
    ap (λ (b : Bool). b && not (finished_at old place))
    (at_map is_finished (finished_by reason) mid place ∙ ap (λ (o : Option TestState). option_map_or (λ t. is_finished (finished_by reason t)) o false) same)
    ∙ stop_of_test reason (slice_get old place) none
    ∙ sym (at_map (λ (t : TestState). is_stopped_mark t.mark) (finished_by reason) mid place
    ∙ ap (λ (o : Option TestState). option_map_or (λ t. is_stopped_mark (finished_by reason t).mark) o false) same)

-- ---- the tests that a step finishes, by what it does

-- the place of the attempt that ended, where its test is over
abbrev pub ended_first : Event → State → List ℕ
ended_first (events.ScriptEnded script ending) new = []
ended_first (events.Started test) new = []
ended_first (events.Ended test ending) new = cond (finished_at new.tests test) (test ∷ []) []
ended_first (events.Stopped reason) new = []

-- where the step doesn't stop the run, that of the attempt that ended; else also those that are
-- over under a reason from then on
pub record Splits (event : Event) (old new : State) : Type 0 where
  pub going : stops_run old new ≡ false → finishing event old new ≡ ended_first event new
  pub stopping : KeepsReasons old → stops_run old new ≡ true → finishing event old new ≡ ended_first event new ++ stopped_places new

none_newly : (old new : State) → new.tests ≡ old.tests → newly_finished old new ≡ []
none_newly old new same =
    filter_none (newly_finished_at old.tests new.tests) (range_with_len 0 (length new.tests)) (λ place. stays old.tests new.tests place (ap (λ (ts : List TestState). slice_get ts place) same))

-- whether a step stops the run, by the reasons before it and after it
pub no_stop : (old new : State) → new.reason ≡ old.reason → stops_run old new ≡ false
no_stop old new same = ap (λ (o : Option CancelReason). not (is_some old.reason) && is_some o) same ∙ not_and (is_some old.reason)

pub stop_is : (old new : State) (reason : CancelReason) → old.reason ≡ None → new.reason ≡ Some reason → stops_run old new ≡ true
stop_is old new reason none some =
    ap (λ (o : Option CancelReason). not (is_some o) && is_some new.reason) none ∙ ap is_some some

all_stopped : (old : State) (reason : CancelReason) (new : State) → new.tests ≡ map (finished_by reason) old.tests → KeepsReasons old → old.reason ≡ None
    → newly_finished old new ≡ stopped_places new
all_stopped old reason new is keeps none =
    filter_agree (newly_finished_at old.tests new.tests) (is_stopped_at new.tests)
    (λ place. subst (λ (ts : List TestState). newly_finished_at old.tests ts place ≡ is_stopped_at ts place) (sym is) (stop_at reason old.tests old.tests place refl (keeps none place)))
    (range_with_len 0 (length new.tests))

splits_script : (old new : State) (script : ℕ) (ending : Record) → step old (events.ScriptEnded script ending) ≡ Ok new → Splits (events.ScriptEnded script ending) old new
splits_script old new script ending happens =
    let shows = script_shows old new script ending happens in
    subst (Splits (events.ScriptEnded script ending) old) (sym shows.is) (by_success (is_success ending.result) shows.going)
  where
    ended : State
    ended = record old { scripts = old.scripts ++ ending ∷ [] }

    by_success : (succeeds : Bool) → old.reason ≡ None → Splits (events.ScriptEnded script ending) old (cond succeeds ended (stopped_by why.SetupScriptFailure ended))
    by_success true none =
        record {
          going = λ goes. none_newly old ended refl;
          stopping = λ keeps stops. let goes = no_stop old ended refl in cc;
        }
    by_success false none =
        record {
          going = λ goes. let stops = stop_is old (stopped_by why.SetupScriptFailure ended) why.SetupScriptFailure none refl in cc;
          stopping = λ keeps stops. all_stopped old why.SetupScriptFailure (stopped_by why.SetupScriptFailure ended) refl keeps none;
        }

splits_start : (old new : State) (place : ℕ) → step old (events.Started place) ≡ Ok new → Splits (events.Started place) old new
splits_start old new place happens =
    let shows = start_shows old new place happens in
    let running = record shows.test { mark = marks.Running } in
    let mid = with_test old place running in
    subst (Splits (events.Started place) old) (sym shows.is)
    (record {
      going = λ goes. filter_none (newly_finished_at old.tests mid.tests) (range_with_len 0 (length mid.tests)) (each shows.test shows.found);
      stopping = λ keeps stops. let goes = no_stop old mid refl in cc;
    })
  where
    each : (test : TestState) → slice_get old.tests place ≡ Some test → (p : ℕ) → newly_finished_at old.tests (slice_set old.tests place (record test { mark = marks.Running })) p ≡ false
    each test found p =
        let running = record test { mark = marks.Running } in
        let new_tests = slice_set old.tests place running in
        elim (cases_eq p place) [
          | inl e ↦
              let here : finished_at new_tests p ≡ false = ap (finished_at new_tests) e ∙ finished_there new_tests place running (set_here old.tests place test running found) in
              ap (λ (b : Bool). b && not (finished_at old.tests p)) here
          | inr other ↦ stays old.tests new_tests p (set_elsewhere old.tests place p running other)
        ]

splits_stop : (old new : State) (reason : CancelReason) → step old (events.Stopped reason) ≡ Ok new → Splits (events.Stopped reason) old new
splits_stop old new reason happens =
    let free = guard_ok (is_inner reason) refused.InnerReason _ new happens in
    subst (Splits (events.Stopped reason) old) (sym (ok_is _ new free.1)) (by_reason old.reason refl)
  where
    by_reason : (given : Option CancelReason) → old.reason ≡ given
        → Splits (events.Stopped reason) old (option_map_or (λ kept. record old { reason = Some (graver_reason kept reason) }) given (stopped_by reason old))
    by_reason None none =
        record {
          going = λ goes. let stops = stop_is old (stopped_by reason old) reason none refl in cc;
          stopping = λ keeps stops. all_stopped old reason (stopped_by reason old) refl keeps none;
        }
    by_reason (Some kept) some =
        let graver = record old { reason = Some (graver_reason kept reason) } in
        record {
          going = λ goes. none_newly old graver refl;
          stopping = λ keeps stops. let goes = ap (λ (o : Option CancelReason). not (is_some o) && true) some in cc;
        }

-- ---- an attempt that ends

-- the first part: its test, where it is over
first_part : (old new : State) (place : ℕ) → place < length new.tests → finished_at old.tests place ≡ false
    → filter (λ p. eqb p place) (newly_finished old new) ≡ cond (finished_at new.tests place) (place ∷ []) []
first_part old new place within unfinished =
    filter_twice (newly_finished_at old.tests new.tests) (λ p. eqb p place) (range_with_len 0 (length new.tests))
    ∙ only (newly_finished_at old.tests new.tests) 0 (length new.tests) place (omega arith) (omega (arith, within))
    ∙ ap (λ (b : Bool). cond b (place ∷ []) []) (ap (λ (b : Bool). finished_at new.tests place && not b) unfinished ∙ and_true (finished_at new.tests place))

-- the second part: the other places
second_part : (old new : State) (place : ℕ) (passes : ℕ → Bool) → passes place ≡ false → ((p : ℕ) → (p ≡ place → ⊥) → newly_finished_at old.tests new.tests p ≡ passes p)
    → filter (λ p. not (eqb p place)) (newly_finished old new) ≡ places_among passes (length new.tests)
second_part old new place passes not_it others =
    filter_twice (newly_finished_at old.tests new.tests) (λ p. not (eqb p place)) (range_with_len 0 (length new.tests))
    ∙ filter_agree (λ p. newly_finished_at old.tests new.tests p && not (eqb p place)) passes each (range_with_len 0 (length new.tests))
  where
    each : (p : ℕ) → (newly_finished_at old.tests new.tests p && not (eqb p place)) ≡ passes p
    each p =
        elim (cases_eq p place) [
          | inl e ↦
              ap (λ (b : Bool). newly_finished_at old.tests new.tests p && not b) (eq-eqb p place e)
              ∙ and_false (newly_finished_at old.tests new.tests p) ∙ sym (ap passes e ∙ not_it)
          | inr other ↦
              ap (λ (b : Bool). newly_finished_at old.tests new.tests p && not b) (ne_eqb p place other)
              ∙ and_true (newly_finished_at old.tests new.tests p) ∙ others p other
        ]

both_parts : (front one back more : List ℕ) → front ≡ one → back ≡ more → front ++ back ≡ one ++ more
both_parts front one back more first second = ap (λ (l : List ℕ). l ++ back) first ∙ ap (λ (l : List ℕ). one ++ l) second

-- the run goes on, or was stopped before: the other tests are as they were
end_going : (old : State) (place : ℕ) (ending : Record) (test after : TestState) → slice_get old.tests place ≡ Some test → is_finished test ≡ false
    → Splits (events.Ended place ending) old (with_test old place after)
end_going old place ending test after found unfinished =
    let new = with_test old place after in
    let inside = slice_get_within old.tests place test found in
    let within : place < length new.tests = omega (arith, inside, length-set old.tests place after) in
    record {
      going = λ goes.
          both_parts _ (ended_first (events.Ended place ending) new) _ []
          (first_part old new place within (finished_there old.tests place test found ∙ unfinished))
          (second_part old new place (λ p. false) refl (λ p other. stays old.tests new.tests p (set_elsewhere old.tests place p after other))
          ∙ filter_none (λ p. false) (range_with_len 0 (length new.tests)) (λ p. refl))
          ∙ append-nil (ended_first (events.Ended place ending) new);
      stopping = λ keeps stops. let goes = no_stop old new refl in cc;
    }

-- the limit stops the run: the test keeps no reason
end_stopping : (old : State) (place : ℕ) (ending : Record) (test after : TestState) (reason : CancelReason) → slice_get old.tests place ≡ Some test → is_finished test ≡ false
    → old.reason ≡ None → is_stopped_mark (stopped_mark reason after.mark) ≡ false → Splits (events.Ended place ending) old (stopped_by reason (with_test old place after))
end_stopping old place ending test after reason found unfinished none free =
    let mid = with_test old place after in
    let new = stopped_by reason mid in
    let inside = slice_get_within old.tests place test found in
    let within : place < length new.tests = omega (arith, inside, length-set old.tests place after, length-map mid.tests (finished_by reason)) in
    let here : is_stopped_at new.tests place ≡ false =
    at_map (λ (t : TestState). is_stopped_mark t.mark) (finished_by reason) mid.tests place
    ∙ ap (λ (o : Option TestState). option_map_or (λ t. is_stopped_mark (finished_by reason t).mark) o false) (set_here old.tests place test after found) ∙ free in
    record {
      going = λ goes. let stops = stop_is old new reason none refl in cc;
      stopping = λ keeps stops.
          both_parts _ (ended_first (events.Ended place ending) new) _ (stopped_places new)
          (first_part old new place within (finished_there old.tests place test found ∙ unfinished))
          (second_part old new place (is_stopped_at new.tests) here
          (λ p other. stop_at reason old.tests mid.tests p (set_elsewhere old.tests place p after other) (keeps none p)));
    }

splits_end : (old new : State) (place : ℕ) (ending : Record) → step old (events.Ended place ending) ≡ Ok new → Splits (events.Ended place ending) old new
splits_end old new place ending happens =
    let shows = end_shows old new place ending happens in
    subst (Splits (events.Ended place ending) old) (sym shows.is)
    (by_limit shows.test shows.found (ap is_finished_mark shows.running) (finishes old shows.test ending && not (is_some old.reason)) refl (mode_at old.limit (failed_weight (slice_set old.tests place (after_attempt old shows.test ending)))))
  where
    by_limit : (test : TestState) → slice_get old.tests place ≡ Some test → is_finished test ≡ false → (b : Bool) → (finishes old test ending && not (is_some old.reason)) ≡ b
        → (reached : Option TerminateMode)
        → Splits (events.Ended place ending) old
        (cond b (option_map_or (λ mode. stopped_by (limit_reason mode) (with_test old place (after_attempt old test ending))) reached (with_test old place (after_attempt old test ending))) (with_test old place (after_attempt old test ending)))
    by_limit test found unfinished false e reached = end_going old place ending test (after_attempt old test ending) found unfinished
    by_limit test found unfinished true e None = end_going old place ending test (after_attempt old test ending) found unfinished
    by_limit test found unfinished true e (Some mode) =
        let parts = both_true (finishes old test ending) (is_some old.reason) e in
        let none = no_reason old.reason parts.1 in
        end_stopping old place ending test (after_attempt old test ending) (limit_reason mode) found unfinished none
        (ap (λ (b : Bool). is_stopped_mark (stopped_mark (limit_reason mode) (cond b (marks.Finished old.reason) marks.Between))) parts.0 ∙ ap is_some none)

pub step_splits : (old new : State) (event : Event) → step old event ≡ Ok new → Splits event old new
step_splits old new (events.ScriptEnded script ending) happens = splits_script old new script ending happens
step_splits old new (events.Started test) happens = splits_start old new test happens
step_splits old new (events.Ended test ending) happens = splits_end old new test ending happens
step_splits old new (events.Stopped reason) happens = splits_stop old new reason happens

-- a step that doesn't stop the run, or finds it stopped, finishes no test but that whose attempt
-- ended
pub finishes_going : (old new : State) (event : Event) → step old event ≡ Ok new → stops_run old new ≡ false → finishing event old new ≡ ended_first event new
finishes_going old new event happens going = (step_splits old new event happens).going going

-- one that stops the run also finishes those that are over under a reason from then on
pub finishes_stopping : (old new : State) (event : Event) → KeepsReasons old → step old event ≡ Ok new → stops_run old new ≡ true
    → finishing event old new ≡ ended_first event new ++ stopped_places new
finishes_stopping old new event keeps happens stopping = (step_splits old new event happens).stopping keeps stopping

-- the same of any step
pub finishes_all : (old new : State) (event : Event) → KeepsReasons old → step old event ≡ Ok new
    → finishing event old new ≡ ended_first event new ++ cond (stops_run old new) (stopped_places new) []
finishes_all old new event keeps happens = by_test (stops_run old new) refl
  where
    by_test : (b : Bool) → stops_run old new ≡ b → finishing event old new ≡ ended_first event new ++ cond b (stopped_places new) []
    by_test true e = finishes_stopping old new event keeps happens e
    by_test false e = finishes_going old new event happens e ∙ sym (append-nil (ended_first event new))

-- so an answer that says which attempt's test is over, and whether the run was stopped, says what
-- the step finished
pub finishes_as : (old new : State) (event : Event) (finished : Finished) → KeepsReasons old → step old event ≡ Ok new
    → option_map_or (λ place. place ∷ []) finished.ended [] ≡ ended_first event new → finished.stops ≡ stops_run old new
    → finishing event old new ≡ finished_places finished new
finishes_as old new event finished keeps happens ended stops =
    finishes_all old new event keeps happens
    ∙ ap (λ (first : List ℕ). first ++ cond (stops_run old new) (stopped_places new) []) (sym ended)
    ∙ ap (λ (b : Bool). option_map_or (λ (place : ℕ). place ∷ []) finished.ended [] ++ cond b (stopped_places new) []) (sym stops)

-- an attempt that starts stops no run
pub start_stops_none : (old new : State) (place : ℕ) → step old (events.Started place) ≡ Ok new → stops_run old new ≡ false
start_stops_none old new place happens = no_stop old new (ap (λ (s : State). s.reason) (start_shows old new place happens).is)

-- an attempt whose end stops the run finished its test
pub stopping_finished : (old new : State) (place : ℕ) (ending : Record) → step old (events.Ended place ending) ≡ Ok new → stops_run old new ≡ true → finished_at new.tests place ≡ true
stopping_finished old new place ending happens =
    let shows = end_shows old new place ending happens in
    subst (λ (s : State). stops_run old s ≡ true → finished_at s.tests place ≡ true) (sym shows.is)
    (by_limit shows.test shows.found (finishes old shows.test ending && not (is_some old.reason)) refl (mode_at old.limit (failed_weight (slice_set old.tests place (after_attempt old shows.test ending)))))
  where
    by_limit : (test : TestState) → slice_get old.tests place ≡ Some test → (b : Bool) → (finishes old test ending && not (is_some old.reason)) ≡ b → (reached : Option TerminateMode)
        → let mid = with_test old place (after_attempt old test ending) in
        let new = cond b (option_map_or (λ mode. stopped_by (limit_reason mode) mid) reached mid) mid in
        stops_run old new ≡ true → finished_at new.tests place ≡ true
    by_limit test found false e reached stops = let goes = no_stop old old refl in cc
    by_limit test found true e None stops = let goes = no_stop old old refl in cc
    by_limit test found true e (Some mode) stops =
        let mid = with_test old place (after_attempt old test ending) in
        let finished = (both_true (finishes old test ending) (is_some old.reason) e).0 in
        at_map is_finished (finished_by (limit_reason mode)) mid.tests place
        ∙ ap (λ (o : Option TestState). option_map_or (λ t. is_finished (finished_by (limit_reason mode) t)) o false) (set_here old.tests place test (after_attempt old test ending) found)
        ∙ ap (λ (b : Bool). is_finished_mark (stopped_mark (limit_reason mode) (cond b (marks.Finished old.reason) marks.Between))) finished

-- so it comes first, and then those that the stop finished
pub finishes_end_stopping : (old new : State) (place : ℕ) (ending : Record) → KeepsReasons old → step old (events.Ended place ending) ≡ Ok new → stops_run old new ≡ true
    → finishing (events.Ended place ending) old new ≡ place ∷ stopped_places new
finishes_end_stopping old new place ending keeps happens stopping =
    finishes_stopping old new (events.Ended place ending) keeps happens stopping
    ∙ ap (λ (b : Bool). cond b (place ∷ []) [] ++ stopped_places new) (stopping_finished old new place ending happens stopping)

-- ---- no reason before there is one

keeps_set : (old : State) (place : ℕ) (test after : TestState) → slice_get old.tests place ≡ Some test → KeepsReasons old
    → (old.reason ≡ None → is_stopped_mark after.mark ≡ false) → KeepsReasons (with_test old place after)
keeps_set old place test after found keeps free none p =
    elim (cases_eq p place) [
      | inl e ↦
          ap (is_stopped_at (slice_set old.tests place after)) e
          ∙ stopped_there (slice_set old.tests place after) place after (set_here old.tests place test after found) ∙ free none
      | inr other ↦
          ap (λ (o : Option TestState). option_map_or (λ t. is_stopped_mark t.mark) o false) (set_elsewhere old.tests place p after other) ∙ keeps none p
    ]

keeps_stopped : (reason : CancelReason) (state : State) → KeepsReasons (stopped_by reason state)
keeps_stopped reason state none = cc

keeps_limited : (finished : Bool) (state : State) → KeepsReasons state → KeepsReasons (after_limit finished state)
keeps_limited finished state keeps = by_test (finished && not (is_some state.reason)) (mode_at state.limit (failed_weight state.tests))
  where
    by_test : (b : Bool) (reached : Option TerminateMode) → KeepsReasons (cond b (option_map_or (λ mode. stopped_by (limit_reason mode) state) reached state) state)
    by_test false reached = keeps
    by_test true None = keeps
    by_test true (Some mode) = keeps_stopped (limit_reason mode) state

ended_mark : (finished : Bool) (reason : Option CancelReason) → reason ≡ None → is_stopped_mark (cond finished (marks.Finished reason) marks.Between) ≡ false
ended_mark true reason none = ap is_some none
ended_mark false reason none = refl

pub step_keeps_reasons : (old new : State) (event : Event) → KeepsReasons old → step old event ≡ Ok new → KeepsReasons new
step_keeps_reasons old new (events.ScriptEnded script ending) keeps happens =
    subst KeepsReasons (sym (script_shows old new script ending happens).is) (by_success (is_success ending.result))
  where
    by_success : (succeeds : Bool)
        → KeepsReasons (cond succeeds (record old { scripts = old.scripts ++ ending ∷ [] }) (stopped_by why.SetupScriptFailure (record old { scripts = old.scripts ++ ending ∷ [] })))
    by_success true = keeps
    by_success false = keeps_stopped why.SetupScriptFailure (record old { scripts = old.scripts ++ ending ∷ [] })
step_keeps_reasons old new (events.Started place) keeps happens =
    let shows = start_shows old new place happens in
    subst KeepsReasons (sym shows.is) (keeps_set old place shows.test (record shows.test { mark = marks.Running }) shows.found keeps (λ none. refl))
step_keeps_reasons old new (events.Ended place ending) keeps happens =
    let shows = end_shows old new place ending happens in
    let after = after_attempt old shows.test ending in
    let finished = finishes old shows.test ending in
    subst KeepsReasons (sym shows.is) (keeps_limited finished (with_test old place after) (keeps_set old place shows.test after shows.found keeps (ended_mark finished old.reason)))
step_keeps_reasons old new (events.Stopped reason) keeps happens =
    let free = guard_ok (is_inner reason) refused.InnerReason _ new happens in
    subst KeepsReasons (sym (ok_is _ new free.1)) (by_reason old.reason)
  where
    by_reason : (given : Option CancelReason) → KeepsReasons (option_map_or (λ kept. record old { reason = Some (graver_reason kept reason) }) given (stopped_by reason old))
    by_reason None = keeps_stopped reason old
    by_reason (Some kept) = λ none. cc

pub initial_keeps_reasons : (plan : RunPlan) → KeepsReasons (initial plan)
initial_keeps_reasons plan none place =
    ap (λ (o : Option TestState). option_map_or (λ t. is_stopped_mark t.mark) o false) (slice_get-map waiting plan.tests place) ∙ by_case (slice_get plan.tests place)
  where
    by_case : (o : Option RunTest) → option_map_or (λ t. is_stopped_mark t.mark) (option_map waiting o) false ≡ false
    by_case None = refl
    by_case (Some test) = refl

pub run_keeps_reasons : (old : State) (run : List Event) (new : State) → KeepsReasons old → Run old run new → KeepsReasons new
run_keeps_reasons old [] new keeps happens = subst KeepsReasons (sym happens) keeps
run_keeps_reasons old (event ∷ run) new keeps happens =
    run_keeps_reasons happens.0 run new (step_keeps_reasons old happens.0 event keeps happens.1) happens.2

-- where no reason stands, no test was finished by one
pub keeps_reasons : (plan : RunPlan) (run : List Event) (last : State) → Run (initial plan) run last → KeepsReasons last
keeps_reasons plan run last happens = run_keeps_reasons (initial plan) run last (initial_keeps_reasons plan) happens

-- ---- a test that is over stays as it is

stop_stays : (reason : CancelReason) (o : Option TestState) → option_map_or is_finished o false ≡ true → option_map (finished_by reason) o ≡ o
stop_stays reason None over = refl
stop_stays reason (Some test) over = by_mark test.mark refl over
  where
    by_mark : (mark : Mark) → test.mark ≡ mark → is_finished_mark mark ≡ true → Some (finished_by reason test) ≡ Some test
    by_mark marks.Waiting m h = cc
    by_mark marks.Running m h = cc
    by_mark marks.Between m h = cc
    by_mark (marks.Finished kept) m h = ap (λ (mark : Mark). Some (record test { mark = mark })) (ap (stopped_mark reason) m ∙ sym m)

all_stay : (reason : CancelReason) (tests : List TestState) (place : ℕ) → finished_at tests place ≡ true → slice_get (map (finished_by reason) tests) place ≡ slice_get tests place
all_stay reason tests place over = slice_get-map (finished_by reason) tests place ∙ stop_stays reason (slice_get tests place) over

limit_stays : (finished : Bool) (state : State) (place : ℕ) → finished_at state.tests place ≡ true → slice_get (after_limit finished state).tests place ≡ slice_get state.tests place
limit_stays finished state place over = by_test (finished && not (is_some state.reason)) (mode_at state.limit (failed_weight state.tests))
  where
    by_test : (b : Bool) (reached : Option TerminateMode)
        → slice_get (cond b (option_map_or (λ mode. stopped_by (limit_reason mode) state) reached state) state).tests place ≡ slice_get state.tests place
    by_test true (Some mode) = all_stay (limit_reason mode) state.tests place over
    by_test true None = refl
    by_test false reached = refl

-- a place where a test is over isn't that of one that isn't
not_there : (tests : List TestState) (place other : ℕ) (test : TestState) → finished_at tests place ≡ true → slice_get tests other ≡ Some test → is_finished test ≡ false → place ≡ other → ⊥
not_there tests place other test over found unfinished e =
    let never : true ≡ false = sym over ∙ ap (finished_at tests) e ∙ finished_there tests other test found ∙ unfinished in cc

pub finished_stays : (old new : State) (event : Event) (place : ℕ) → step old event ≡ Ok new → finished_at old.tests place ≡ true → slice_get new.tests place ≡ slice_get old.tests place
finished_stays old new (events.ScriptEnded script ending) place happens over =
    let shows = script_shows old new script ending happens in
    ap (λ (s : State). slice_get s.tests place) shows.is ∙ by_success (is_success ending.result)
  where
    ended : State
    ended = record old { scripts = old.scripts ++ ending ∷ [] }

    by_success : (succeeds : Bool) → slice_get (cond succeeds ended (stopped_by why.SetupScriptFailure ended)).tests place ≡ slice_get old.tests place
    by_success true = refl
    by_success false = all_stay why.SetupScriptFailure old.tests place over
finished_stays old new (events.Started test) place happens over =
    let shows = start_shows old new test happens in
    ap (λ (s : State). slice_get s.tests place) shows.is
    ∙ set_elsewhere old.tests test place (record shows.test { mark = marks.Running }) (not_there old.tests place test shows.test over shows.found shows.unfinished)
finished_stays old new (events.Ended test ending) place happens over =
    let shows = end_shows old new test ending happens in
    let after = after_attempt old shows.test ending in
    let elsewhere = set_elsewhere old.tests test place after (not_there old.tests place test shows.test over shows.found (ap is_finished_mark shows.running)) in
    ap (λ (s : State). slice_get s.tests place) shows.is
    ∙ limit_stays (finishes old shows.test ending) (with_test old test after) place (ap (λ (o : Option TestState). option_map_or is_finished o false) elsewhere ∙ over)
    ∙ elsewhere
finished_stays old new (events.Stopped reason) place happens over =
    let free = guard_ok (is_inner reason) refused.InnerReason _ new happens in
    ap (λ (s : State). slice_get s.tests place) (ok_is _ new free.1) ∙ by_reason old.reason
  where
    by_reason : (given : Option CancelReason)
        → slice_get (option_map_or (λ kept. record old { reason = Some (graver_reason kept reason) }) given (stopped_by reason old)).tests place ≡ slice_get old.tests place
    by_reason None = all_stay reason old.tests place over
    by_reason (Some kept) = refl

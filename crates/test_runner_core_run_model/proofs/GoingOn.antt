-- A run that agrees with an assignment goes on until it is complete.
use Rattle.std.proofs.Common.{suc, zero, ◌≡◌, ℕ, ◌+◌, ◌<◌, ◌≤◌, Bool, true, false, cond, eqb, not, ◌||◌, ◌&&◌, List, [], ◌∷◌, ◌++◌, length, Option, Some, None, Ok, refl, sym, ap, ◌∙◌, subst, arith, inl, inr, sum_by, count_by}
use Rattle.std.specs.Prelude.{slice_get, is_some}
use Rattle.std.specs.List.{list_all, AllByRecursion}
use Rattle.std.specs.Option.{IsSomeAnd, option_map, option_map_or}
use Rattle.std.proofs.lemmas.Bool.{cases_lt}
use Rattle.std.proofs.lemmas.Bool.Decides.{nat_tests}
use Rattle.std.proofs.lemmas.List.{append-nil, append_assoc}
use Rattle.std.proofs.lemmas.List.Sums.{sum_by-append}
use Rattle.std.proofs.lemmas.Option.{slice_get-map, slice_get_within}
use Rattle.nextest_run_events_results.specs.declared.cancel_reason.CancelReason.{CancelReason}
use Rattle.nextest_run_events_results.specs.declared.record.Record.{Record}
use Rattle.test_runner_core_run_model.specs.RunPlan.{RunPlan, IsPlan}
use Rattle.test_runner_core_run_model.specs.Assignment.{Assignment}
use Rattle.test_runner_core_run_model.specs.State.{TestState, State, initial, is_finished, is_finished_mark, is_running, is_running_mark}
use Rattle.test_runner_core_run_model.specs.Step.{step}
use Rattle.test_runner_core_run_model.specs.Runs.{Run, Agrees, AgreesWith, EventAgrees, IsNoStop, is_complete, is_no_stop, most_events, try_at}
use Rattle.test_runner_core_run_model.specs.Laws.{HasNext, ReachesAnEnd, ReachesTheOneState, IsTry, IsAssigned, ReachesAnAssignedEnd}
use Rattle.test_runner_core_run_model.specs.declared.mark.Mark.{Mark}
use Rattle.test_runner_core_run_model.specs.declared.mark.Mark.TheVariants as marks
use Rattle.test_runner_core_run_model.specs.declared.event.Event.{Event}
use Rattle.test_runner_core_run_model.specs.declared.event.Event.TheVariants as events
use Rattle.test_runner_core_run_model.specs.declared.run_test.RunTest.{RunTest}
use Rattle.test_runner_core_run_model.proofs.OneEnd.{ends_in_one_state}
use Rattle.test_runner_core_run_model.proofs.Scripts.{ok_is}
use Rattle.test_runner_core_run_model.proofs.Spending.{has_at_most, AllRoom, room_at, room_initial, run_room}
use Rattle.test_runner_core_run_model.proofs.Taken.{MayStart, script_taken, start_taken, end_taken}
use Rattle.test_runner_core_run_model.proofs.TestStates.{plan_of}
use Rattle.test_runner_core_run_model.proofs.WholeRuns.{Planned, planned_initial, run_planned}

-- what may come next
record Next (plan : RunPlan) (assigned : Assignment) (state : State) : Type 0 where
  pub event : Event
  pub next : State
  pub plain : IsNoStop event
  pub taken : step state event ≡ Ok next
  pub agrees : EventAgrees assigned state event
  pub as_assigned : Planned plan state → AllRoom state → IsAssigned plan assigned event

-- a test of a state is one of its plan's
planned_at : (plan : RunPlan) (state : State) (place : ℕ) (test : TestState) → Planned plan state → slice_get state.tests place ≡ Some test → slice_get plan.tests place ≡ Some test.plan
planned_at plan state place test planned found =
    sym (ap (λ (tests : List RunTest). slice_get tests place) planned.plans) ∙ slice_get-map plan_of state.tests place ∙ ap (option_map plan_of) found

-- a test that isn't finished has the try that it is at
is_try_at : (plan : RunPlan) (state : State) (place : ℕ) (test : TestState) → Planned plan state → AllRoom state → slice_get state.tests place ≡ Some test → is_finished test ≡ false
    → IsTry plan place (try_at state.tests place)
is_try_at plan state place test planned room found open_still =
    let left = subst (λ (b : Bool). length test.records + cond b 0 1 ≤ test.plan.tries) open_still (room_at state.tests place test room found) in
    let at : try_at state.tests place ≡ length test.records + 1 = ap (λ (o : Option TestState). option_map_or (λ t. length t.records + 1) o 1) found in
    (omega (arith, at), subst (λ (o : Option RunTest). IsSomeAnd o (λ it. try_at state.tests place ≤ it.tries)) (sym (planned_at plan state place test planned found)) (omega (arith, at, left)))

agrees_itself : (reason : Option CancelReason) (ending : Record) → AgreesWith reason ending ending
agrees_itself None ending = refl
agrees_itself (Some reason) ending = inl refl

-- a test that doesn't pass stands at a place
place_of : (p : TestState → Bool) (tests : List TestState) → list_all p tests ≡ false → (place : ℕ) × (test : TestState) × (slice_get tests place ≡ Some test) × (p test ≡ false)
place_of p [] h = cc
place_of p (test ∷ tests) h = by_first (p test) refl h (place_of p tests)
  where
    by_first : (b : Bool) → p test ≡ b → (b && list_all p tests) ≡ false
        → (list_all p tests ≡ false → (place : ℕ) × (t : TestState) × (slice_get tests place ≡ Some t) × (p t ≡ false))
        → (place : ℕ) × (t : TestState) × (slice_get (test ∷ tests) place ≡ Some t) × (p t ≡ false)
    by_first false e g rest = (0, test, refl, e)
    by_first true e g rest = let more = rest g in (suc more.0, more.1, more.2, more.3)

-- an attempt that runs may end as it was assigned
running_ends : (plan : RunPlan) (assigned : Assignment) (state : State) (place : ℕ) (test : TestState) → slice_get state.tests place ≡ Some test → test.mark ≡ marks.Running → Next plan assigned state
running_ends plan assigned state place test found running =
    let ending = assigned.attempt place (try_at state.tests place) in
    let taken = end_taken state place ending (record { test = test; found = found; marked = running }) in
    record {
      event = events.Ended place ending;
      next = taken.0;
      plain = tt;
      taken = taken.1;
      agrees = agrees_itself state.reason ending;
      as_assigned = λ planned room. (try_at state.tests place, is_try_at plan state place test planned room found (ap is_finished_mark running), refl);
    }

script_ends : (plan : RunPlan) (assigned : Assignment) (state : State) → state.reason ≡ None → length state.scripts < state.planned_scripts → Next plan assigned state
script_ends plan assigned state going less =
    let ending = assigned.script (length state.scripts) in
    let taken = script_taken state ending (length state.scripts) state.planned_scripts (length state.scripts) false
    (record { planned_scripts = refl; ended_scripts = refl; reason = ap is_some going }) less refl refl in
    record {
      event = events.ScriptEnded (length state.scripts) ending;
      next = taken.0;
      plain = tt;
      taken = taken.1;
      agrees = agrees_itself state.reason ending;
      as_assigned = λ planned room. (let scripts = planned.planned in omega (arith, less, scripts), refl);
    }

test_starts : (plan : RunPlan) (assigned : Assignment) (state : State) (place : ℕ) (test : TestState) (mark : Mark) → state.reason ≡ None → state.planned_scripts ≤ length state.scripts
    → slice_get state.tests place ≡ Some test → test.mark ≡ mark → MayStart mark → Next plan assigned state
test_starts plan assigned state place test mark going ended found marked may =
    let taken = start_taken state place mark state.planned_scripts (length state.scripts) false
    (record { planned_scripts = refl; ended_scripts = refl; reason = ap is_some going }) (record { test = test; found = found; marked = marked }) refl ended may in
    record {
      event = events.Started place;
      next = taken.0;
      plain = tt;
      taken = taken.1;
      agrees = tt;
      as_assigned = λ planned room. slice_get_within plan.tests place test.plan (planned_at plan state place test planned found);
    }

-- what isn't complete shows, where no reason stands and all scripts ended, and where a reason
-- stands
unfinished_left : (state : State) → length state.scripts ≡ state.planned_scripts → is_complete state ≡ false → list_all is_finished state.tests ≡ false
unfinished_left state ended open_still =
    by_tests (eqb (length state.scripts) state.planned_scripts) (list_all is_finished state.tests) _ (grind (arith, nat_tests)) open_still
  where
    by_tests : (a b rest : Bool) → a ≡ true → ((a && b) || rest) ≡ false → b ≡ false
    by_tests true false rest e h = refl
    by_tests true true rest e h = cc
    by_tests false b rest e h = cc

running_left : (state : State) (reason : CancelReason) → state.reason ≡ Some reason → is_complete state ≡ false → list_all (λ test. not (is_running test)) state.tests ≡ false
running_left state reason stands open_still =
    by_tests (eqb (length state.scripts) state.planned_scripts && list_all is_finished state.tests) (is_some state.reason) _ (ap is_some stands) open_still
  where
    by_tests : (all a b : Bool) → a ≡ true → (all || (a && b)) ≡ false → b ≡ false
    by_tests true a b e h = cc
    by_tests false true b e h = h
    by_tests false false b e h = cc

next_of : (plan : RunPlan) (assigned : Assignment) (state : State) → length state.scripts ≤ state.planned_scripts → is_complete state ≡ false → Next plan assigned state
next_of plan assigned state within open_still = by_reason state.reason refl
  where
    by_unfinished : state.reason ≡ None → state.planned_scripts ≤ length state.scripts → (place : ℕ) (test : TestState) → slice_get state.tests place ≡ Some test
        → is_finished test ≡ false → (mark : Mark) → test.mark ≡ mark → Next plan assigned state
    by_unfinished going ended place test found unfinished marks.Waiting e = test_starts plan assigned state place test marks.Waiting going ended found e tt
    by_unfinished going ended place test found unfinished marks.Running e = running_ends plan assigned state place test found e
    by_unfinished going ended place test found unfinished marks.Between e = test_starts plan assigned state place test marks.Between going ended found e tt
    by_unfinished going ended place test found unfinished (marks.Finished kept) e = let over = ap is_finished_mark e in cc

    by_running : (place : ℕ) (test : TestState) → slice_get state.tests place ≡ Some test → not (is_running test) ≡ false → (mark : Mark) → test.mark ≡ mark → Next plan assigned state
    by_running place test found runs marks.Waiting e = let no = ap (λ (m : Mark). not (is_running_mark m)) e in cc
    by_running place test found runs marks.Running e = running_ends plan assigned state place test found e
    by_running place test found runs marks.Between e = let no = ap (λ (m : Mark). not (is_running_mark m)) e in cc
    by_running place test found runs (marks.Finished kept) e = let no = ap (λ (m : Mark). not (is_running_mark m)) e in cc

    by_reason : (reason : Option CancelReason) → state.reason ≡ reason → Next plan assigned state
    by_reason None going =
        elim (cases_lt (length state.scripts) state.planned_scripts) [
          | inl less ↦ script_ends plan assigned state going less
          | inr ended ↦
              let left = place_of is_finished state.tests (unfinished_left state (omega (arith, within, ended)) open_still) in
              by_unfinished going ended left.0 left.1 left.2 left.3 (left.1).mark refl
        ]
    by_reason (Some reason) stands =
        let left = place_of (λ test. not (is_running test)) state.tests (running_left state reason stands open_still) in
        by_running left.0 left.1 left.2 left.3 (left.1).mark refl

-- ---- one event more

run_then : (old : State) (run : List Event) (mid : State) (event : Event) (new : State) → Run old run mid → step mid event ≡ Ok new → Run old (run ++ event ∷ []) new
run_then old [] mid event new happens taken = (new, subst (λ (s : State). step s event ≡ Ok new) happens taken, refl)
run_then old (first ∷ run) mid event new happens taken = (happens.0, happens.1, run_then happens.0 run mid event new happens.2 taken)

agrees_then : (assigned : Assignment) (old : State) (run : List Event) (mid : State) (event : Event) → Run old run mid → Agrees assigned old run → EventAgrees assigned mid event
    → Agrees assigned old (run ++ event ∷ [])
agrees_then assigned old [] mid event happens agrees here = (subst (λ (s : State). EventAgrees assigned s event) happens here, λ next taken. tt)
agrees_then assigned old (first ∷ run) mid event happens agrees here = (
  agrees.0,
  λ next taken.
      let same : happens.0 ≡ next = ok_is next happens.0 (sym taken ∙ happens.1) in
      subst (λ (s : State). Agrees assigned s (run ++ event ∷ [])) same
      (agrees_then assigned happens.0 run mid event happens.2 (agrees.1 happens.0 happens.1) here),
)

pub has_next : HasNext
has_next plan assigned run last happens agrees open_still =
    let planned = run_planned plan (initial plan) run last (planned_initial plan) happens in
    let then = next_of plan assigned last planned.within open_still in (
      then.event,
      then.next,
      then.plain,
      then.taken,
      run_then (initial plan) run last then.event then.next happens then.taken,
      agrees_then assigned (initial plan) run last then.event happens agrees then.agrees,
    )

-- ---- to an end

counts_plain : (event : Event) → IsNoStop event → is_no_stop event ≡ true
counts_plain (events.ScriptEnded script ending) plain = refl
counts_plain (events.Started test) plain = refl
counts_plain (events.Ended test ending) plain = refl
counts_plain (events.Stopped reason) plain = absurd plain

count_then : (run : List Event) (event : Event) → IsNoStop event → count_by is_no_stop (run ++ event ∷ []) ≡ count_by is_no_stop run + 1
count_then run event plain =
    let split = sum_by-append (λ e. cond (is_no_stop e) 1 0) run (event ∷ []) in
    let last : sum_by (λ e. cond (is_no_stop e) 1 0) (event ∷ []) ≡ 1 = ap (λ (b : Bool). 0 + cond b 1 0) (counts_plain event plain) in
    omega (arith, split, last)

-- with so many events left, a run reaches an end
abbrev Ends : RunPlan → Assignment → List Event → Type 0
Ends plan assigned run =
    (more : List Event) × (end : State) × AllByRecursion IsNoStop more × (is_complete end ≡ true)
    × Run (initial plan) (run ++ more) end × Agrees assigned (initial plan) (run ++ more)
    × AllByRecursion (IsAssigned plan assigned) more

one_more : (plan : RunPlan) (assigned : Assignment) (run : List Event) (event : Event) → IsNoStop event → IsAssigned plan assigned event → Ends plan assigned (run ++ event ∷ [])
    → Ends plan assigned run
one_more plan assigned run event plain is_one ends =
    let same = append_assoc run (event ∷ []) ends.0 in (
      event ∷ ends.0,
      ends.1,
      (plain, ends.2),
      ends.3,
      subst (λ (all : List Event). Run (initial plan) all ends.1) same ends.4,
      subst (λ (all : List Event). Agrees assigned (initial plan) all) same ends.5,
      (is_one, ends.6),
    )

complete_now : (plan : RunPlan) (assigned : Assignment) (run : List Event) (last : State) → Run (initial plan) run last → Agrees assigned (initial plan) run → is_complete last ≡ true
    → Ends plan assigned run
complete_now plan assigned run last happens agrees complete = (
  [],
  last,
  tt,
  complete,
  subst (λ (all : List Event). Run (initial plan) all last) (sym (append-nil run)) happens,
  subst (λ (all : List Event). Agrees assigned (initial plan) all) (sym (append-nil run)) agrees,
  tt,
)

-- a run that isn't complete has an end if each run with one event more has one
ends_by : (plan : RunPlan) (assigned : Assignment) (run : List Event) (last : State) → IsPlan plan → Run (initial plan) run last → Agrees assigned (initial plan) run
    → ((event : Event) (next : State) → IsNoStop event → Run (initial plan) (run ++ event ∷ []) next → Agrees assigned (initial plan) (run ++ event ∷ []) → Ends plan assigned (run ++ event ∷ []))
    → Ends plan assigned run
ends_by plan assigned run last ok happens agrees further = by_complete (is_complete last) refl
  where
    by_complete : (b : Bool) → is_complete last ≡ b → Ends plan assigned run
    by_complete true e = complete_now plan assigned run last happens agrees e
    by_complete false e =
        let planned = run_planned plan (initial plan) run last (planned_initial plan) happens in
        let room = run_room (initial plan) run last (room_initial plan.tests ok.tries) happens in
        let then = next_of plan assigned last planned.within e in
        one_more plan assigned run then.event then.plain (then.as_assigned planned room)
        (further then.event then.next then.plain
        (run_then (initial plan) run last then.event then.next happens then.taken)
        (agrees_then assigned (initial plan) run last then.event happens agrees then.agrees))

ends_within : (left : ℕ) (plan : RunPlan) (assigned : Assignment) (run : List Event) (last : State) → IsPlan plan → most_events plan ≤ count_by is_no_stop run + left
    → Run (initial plan) run last → Agrees assigned (initial plan) run → Ends plan assigned run
ends_within zero plan assigned run last ok enough happens agrees =
    ends_by plan assigned run last ok happens agrees
    (λ event next plain goes still.
    let most = has_at_most plan (run ++ event ∷ []) next ok goes in
    let count = count_then run event plain in
    absurd (omega (arith, enough, most, count)))
ends_within (suc left) plan assigned run last ok enough happens agrees =
    ends_by plan assigned run last ok happens agrees
    (λ event next plain goes still.
    let count = count_then run event plain in
    ends_within left plan assigned (run ++ event ∷ []) next ok (omega (arith, enough, count)) goes still)

pub reaches_an_end : ReachesAnEnd
reaches_an_end plan assigned run last ok happens agrees =
    let ends = ends_within (most_events plan) plan assigned run last ok (omega arith) happens agrees in (ends.0, ends.1, ends.2, ends.3, ends.4, ends.5)

pub reaches_an_assigned_end : ReachesAnAssignedEnd
reaches_an_assigned_end plan assigned ok =
    let ends = ends_within (most_events plan) plan assigned [] (initial plan) ok (omega arith) refl tt in (ends.0, ends.1, ends.4, ends.5, ends.3, ends.6)

-- for an unstopped assignment that end is the one
pub reaches_the_one_state : ReachesTheOneState
reaches_the_one_state plan assigned ok free =
    let ends = reaches_an_end plan assigned [] (initial plan) ok refl tt in
    let same = ends_in_one_state plan assigned ends.0 ends.1 ok free ends.4 ends.5 ends.2 ends.3 in (
      ends.0,
      subst (Run (initial plan) ends.0) same ends.4,
      ends.5,
      ends.2,
      subst (λ (s : State). is_complete s ≡ true) same ends.3,
    )

-- What holds of every run that agrees with an assignment, stopped by whom it may be.
use Rattle.std.proofs.Common.{suc, zero, ◌≡◌, ℕ, ◌+◌, ◌<◌, Bool, true, false, cond, ltb, leb, not, ◌||◌, ◌&&◌, List, [], ◌∷◌, ◌++◌, length, Option, Some, None, Ok, map, refl, sym, ap, ◌∙◌, subst, arith, ◌⊎◌, inl, inr}
use Rattle.std.specs.Prelude.{is_some}
use Rattle.std.specs.Option.{option_map_or}
use Rattle.nextest_config_elements_choices.specs.MaxFail.{mode_at}
use Rattle.nextest_config_elements_choices.specs.declared.max_fail.TerminateMode.{TerminateMode}
use Rattle.nextest_run_events_results.specs.declared.cancel_reason.CancelReason.{CancelReason}
use Rattle.nextest_run_events_results.specs.declared.cancel_reason.CancelReason.TheVariants as why
use Rattle.nextest_run_events_results.specs.Cancel.{graver_reason, is_inner}
use Rattle.nextest_run_events_results.specs.Result.{is_success}
use Rattle.nextest_run_events_counters.specs.Rows.{fails_test}
use Rattle.nextest_run_events_results.specs.declared.record.Record.{Record}
use Rattle.test_runner_core_run_model.specs.RunPlan.{RunPlan, IsPlan}
use Rattle.test_runner_core_run_model.specs.Assignment.{Assignment, first_success, found_or}
use Rattle.test_runner_core_run_model.specs.Ends.{records_of_tries}
use Rattle.test_runner_core_run_model.specs.State.{TestState, State, initial, counts, is_finished, is_finished_mark, last_record, finished_as, failed_weight}
use Rattle.test_runner_core_run_model.specs.Step.{step, with_test, after_attempt, finishes, finished_by, stopped_mark, after_limit, limit_reason, stopped_by}
use Rattle.test_runner_core_run_model.specs.Runs.{Run, Agrees, AgreesWith, EventAgrees}
use Rattle.test_runner_core_run_model.specs.declared.mark.Mark.{Mark}
use Rattle.test_runner_core_run_model.specs.declared.mark.Mark.TheVariants as marks
use Rattle.test_runner_core_run_model.specs.declared.event.Event.{Event}
use Rattle.test_runner_core_run_model.specs.declared.event.Event.TheVariants as events
use Rattle.test_runner_core_run_model.specs.declared.step_refusal.StepRefusal.TheVariants as refused
use Rattle.test_runner_core_run_model.proofs.FirstSuccess.{Fits, FitsMark, failure_fails, last_record-push, unfinished_counts}
use Rattle.test_runner_core_run_model.proofs.TestStates.{AllBeside, beside_at, beside_set, counts_stopped, fits_after, fits_started, fits_initial}
use Rattle.test_runner_core_run_model.proofs.Scripts.{guard_ok, ok_is}
use Rattle.test_runner_core_run_model.proofs.Keeping.{Keeps, keeps_initial, keeps_stopped, keeps_script, keeps_set, script_shows, start_shows, end_shows}

-- a test of any run: its records are those of its first tries and it is as far as they say, or it
-- counts as failing
abbrev pub Fares : (ℕ → Record) → TestState → Type 0
Fares attempt test = Fits attempt test ⊎ (counts fails_test test ≡ true)

abbrev with_mark : TestState → Mark → TestState
with_mark test mark = record test { mark = mark }

-- a finished test whose last record is no success counts as failing
failed_counts : (test : TestState) (ending : Record) → is_finished test ≡ true → last_record test.records ≡ Some ending → is_success ending.result ≡ false → counts fails_test test ≡ true
failed_counts test ending over last lost =
    ap (λ (b : Bool). b && option_map_or (λ r. fails_test (finished_as test r)) (last_record test.records) false) over
    ∙ ap (λ (o : Option Record). option_map_or (λ r. fails_test (finished_as test r)) o false) last
    ∙ failure_fails ending.result ending.slow (ltb 1 (length test.records)) test.plan.flaky lost

-- where tries had no success, the last of them had none
last_lost : (attempt : ℕ → Record) (number : ℕ) → first_success attempt (suc number) ≡ None → is_success (attempt (suc number)).result ≡ false
last_lost attempt number none = by_tests (first_success attempt number) (is_success (attempt (suc number)).result) none
  where
    by_tests : (before : Option ℕ) (succeeds : Bool) → found_or before succeeds (suc number) ≡ None → succeeds ≡ false
    by_tests (Some k) succeeds h = cc
    by_tests None true h = cc
    by_tests None false h = refl

-- a stop that finishes a test between two attempts leaves it failing
between_fails : (attempt : ℕ → Record) (reason : CancelReason) (test : TestState) (number : ℕ) → 0 < number → test.records ≡ records_of_tries attempt number
    → first_success attempt number ≡ None → counts fails_test (with_mark test (marks.Finished (Some reason))) ≡ true
between_fails attempt reason test zero some e none = absurd (omega arith)
between_fails attempt reason test (suc number) some e none =
    failed_counts (with_mark test (marks.Finished (Some reason))) (attempt (suc number)) refl
    (ap last_record e ∙ last_record-push (records_of_tries attempt number) (attempt (suc number))) (last_lost attempt number none)

fares_stopped : (attempt : ℕ → Record) (reason : CancelReason) (test : TestState) → Fares attempt test → Fares attempt (finished_by reason test)
fares_stopped attempt reason test (inr failed) = inr (counts_stopped fails_test reason test failed)
fares_stopped attempt reason test (inl fits) = by_mark test.mark refl
  where
    same : test.mark ≡ stopped_mark reason test.mark → Fares attempt (finished_by reason test)
    same e = inl (subst (λ (mark : Mark). Fits attempt (with_mark test mark)) e fits)

    by_mark : (mark : Mark) → test.mark ≡ mark → Fares attempt (finished_by reason test)
    by_mark marks.Waiting e = same (e ∙ sym (ap (stopped_mark reason) e))
    by_mark marks.Running e = same (e ∙ sym (ap (stopped_mark reason) e))
    by_mark marks.Between e =
        let between = subst (FitsMark attempt test.plan.tries (length test.records)) e fits.marked in
        inr (subst (λ (mark : Mark). counts fails_test (with_mark test mark) ≡ true) (sym (ap (stopped_mark reason) e))
        (between_fails attempt reason test (length test.records) between.2 fits.records between.1))
    by_mark (marks.Finished kept) e = same (e ∙ sym (ap (stopped_mark reason) e))

all_stopped : (reason : CancelReason) (tests : List TestState) (attempt : ℕ → ℕ → Record) → AllBeside Fares tests attempt → AllBeside Fares (map (finished_by reason) tests) attempt
all_stopped reason [] attempt all = tt
all_stopped reason (test ∷ tests) attempt all = (fares_stopped (attempt 0) reason test all.0, all_stopped reason tests (λ p. attempt (suc p)) all.1)

-- a test that isn't finished doesn't count, so it fits
open_fits : (attempt : ℕ → Record) (test : TestState) → Fares attempt test → is_finished test ≡ false → Fits attempt test
open_fits attempt test (inl fits) open_still = fits
open_fits attempt test (inr failed) open_still = let none = unfinished_counts fails_test test open_still in cc

-- an attempt that ran and ended without a success under a reason leaves its test failing
lost_fails : (state : State) (test : TestState) (ending : Record) → is_some state.reason ≡ true → is_success ending.result ≡ false → counts fails_test (after_attempt state test ending) ≡ true
lost_fails state test ending stands lost =
    failed_counts (after_attempt state test ending) ending (by_tests (is_success ending.result) (leb test.plan.tries (length test.records + 1)) (is_some state.reason) stands)
    (last_record-push test.records ending) lost
  where
    by_tests : (succeeds last some : Bool) → some ≡ true → is_finished_mark (cond (succeeds || last || some) (marks.Finished state.reason) marks.Between) ≡ true
    by_tests true last some h = refl
    by_tests false true some h = refl
    by_tests false false true h = refl
    by_tests false false false h = cc

-- an attempt that ran and agrees
fares_after : (attempt : ℕ → Record) (state : State) (test : TestState) (ending : Record)
    → Fits attempt test → test.mark ≡ marks.Running → AgreesWith state.reason (attempt (length test.records + 1)) ending → Fares attempt (after_attempt state test ending)
fares_after attempt state test ending fits running agrees = by_reason state.reason refl agrees
  where
    by_reason : (reason : Option CancelReason) → state.reason ≡ reason → AgreesWith reason (attempt (length test.records + 1)) ending → Fares attempt (after_attempt state test ending)
    by_reason None e same = inl (fits_after attempt state test ending fits running (inl e) same)
    by_reason (Some reason) e (inr lost) = inr (lost_fails state test ending (ap is_some e) lost)
    by_reason (Some reason) e (inl same) = by_success (is_success ending.result) refl
      where
        by_success : (succeeds : Bool) → is_success ending.result ≡ succeeds → Fares attempt (after_attempt state test ending)
        by_success true s = inl (fits_after attempt state test ending fits running (inr s) same)
        by_success false s = inr (lost_fails state test ending (ap is_some e) s)

-- what holds after each event of a run that agrees: its scripts, its plan, and each test beside its
-- assignment
pub record Holds (plan : RunPlan) (assigned : Assignment) (state : State) : Type 0 where
  pub keeps : Keeps plan assigned state
  pub fare : AllBeside Fares state.tests assigned.attempt

all_initial : (tests : List TestState) (attempt : ℕ → ℕ → Record) → AllBeside Fits tests attempt → AllBeside Fares tests attempt
all_initial [] attempt all = tt
all_initial (test ∷ tests) attempt all = (inl all.0, all_initial tests (λ p. attempt (suc p)) all.1)

pub holds_initial : (plan : RunPlan) (assigned : Assignment) → IsPlan plan → Holds plan assigned (initial plan)
holds_initial plan assigned ok =
    record { keeps = keeps_initial plan assigned; fare = all_initial (initial plan).tests assigned.attempt (fits_initial plan.tests assigned.attempt ok.tries) }

holds_stopped : (plan : RunPlan) (assigned : Assignment) (state : State) (reason : CancelReason) → Holds plan assigned state → Holds plan assigned (stopped_by reason state)
holds_stopped plan assigned state reason holds =
    record { keeps = keeps_stopped plan assigned state reason holds.keeps; fare = all_stopped reason state.tests assigned.attempt holds.fare }

holds_limited : (plan : RunPlan) (assigned : Assignment) (state : State) (finished : Bool) → Holds plan assigned state → Holds plan assigned (after_limit finished state)
holds_limited plan assigned state finished holds = by_test (finished && not (is_some state.reason)) (mode_at state.limit (failed_weight state.tests))
  where
    by_test : (b : Bool) (reached : Option TerminateMode)
        → Holds plan assigned (cond b (option_map_or (λ mode. stopped_by (limit_reason mode) state) reached state) state)
    by_test false reached = holds
    by_test true None = holds
    by_test true (Some mode) = holds_stopped plan assigned state (limit_reason mode) holds

step_holds : (plan : RunPlan) (assigned : Assignment) (old new : State) (event : Event) → Holds plan assigned old
    → step old event ≡ Ok new → EventAgrees assigned old event → Holds plan assigned new
step_holds plan assigned old new (events.ScriptEnded script ending) holds happens agrees =
    let shows = script_shows old new script ending happens in
    let same : ending ≡ assigned.script (length old.scripts) =
    subst (λ (r : Option CancelReason). AgreesWith r (assigned.script script) ending) shows.going agrees ∙ ap assigned.script shows.next in
    subst (Holds plan assigned) (sym shows.is)
    (record { keeps = keeps_script plan assigned old ending holds.keeps shows.less same; fare = by_success (is_success ending.result) })
  where
    fares : State → Type 0
    fares state = AllBeside Fares state.tests assigned.attempt

    by_success : (succeeds : Bool)
        → fares (cond succeeds (record old { scripts = old.scripts ++ ending ∷ [] }) (stopped_by why.SetupScriptFailure (record old { scripts = old.scripts ++ ending ∷ [] })))
    by_success true = holds.fare
    by_success false = all_stopped why.SetupScriptFailure old.tests assigned.attempt holds.fare
step_holds plan assigned old new (events.Started place) holds happens agrees =
    let shows = start_shows old new place happens in
    let test = shows.test in
    let running = with_mark test marks.Running in
    let fits = open_fits (assigned.attempt place) test (beside_at Fares old.tests assigned.attempt place test holds.fare shows.found) shows.unfinished in
    subst (Holds plan assigned) (sym shows.is)
    (record {
      keeps = keeps_set plan assigned old place test running holds.keeps shows.found refl;
      fare = beside_set Fares old.tests assigned.attempt place running holds.fare (inl (fits_started (assigned.attempt place) test fits shows.unfinished));
    })
step_holds plan assigned old new (events.Ended place ending) holds happens agrees =
    let shows = end_shows old new place ending happens in
    let test = shows.test in
    let after = after_attempt old test ending in
    let here = subst (λ (o : Option TestState). AgreesWith old.reason (assigned.attempt place (option_map_or (λ t. length t.records + 1) o 1)) ending) shows.found agrees in
    let fits = open_fits (assigned.attempt place) test (beside_at Fares old.tests assigned.attempt place test holds.fare shows.found) (ap is_finished_mark shows.running) in
    subst (Holds plan assigned) (sym shows.is)
    (holds_limited plan assigned (with_test old place after) (finishes old test ending)
    (record {
      keeps = keeps_set plan assigned old place test after holds.keeps shows.found refl;
      fare = beside_set Fares old.tests assigned.attempt place after holds.fare (fares_after (assigned.attempt place) old test ending fits shows.running here);
    }))
step_holds plan assigned old new (events.Stopped reason) holds happens agrees =
    let free = guard_ok (is_inner reason) refused.InnerReason _ new happens in
    subst (Holds plan assigned) (sym (ok_is _ new free.1)) (by_reason old.reason)
  where
    by_reason : (given : Option CancelReason) → Holds plan assigned (option_map_or (λ kept. record old { reason = Some (graver_reason kept reason) }) given (stopped_by reason old))
    by_reason None = holds_stopped plan assigned old reason holds
    by_reason (Some kept) =
        let keeps = holds.keeps in
        record {
          keeps = record { plans = keeps.plans; planned = keeps.planned; limit = keeps.limit; scripts = keeps.scripts; within = keeps.within };
          fare = holds.fare;
        }

pub run_holds : (plan : RunPlan) (assigned : Assignment) (old : State) (run : List Event) (new : State) → Holds plan assigned old
    → Run old run new → Agrees assigned old run → Holds plan assigned new
run_holds plan assigned old [] new holds happens agrees = subst (Holds plan assigned) (sym happens) holds
run_holds plan assigned old (event ∷ run) new holds happens agrees =
    run_holds plan assigned happens.0 run new (step_holds plan assigned old happens.0 event holds happens.1 agrees.0) happens.2 (agrees.1 happens.0 happens.1)

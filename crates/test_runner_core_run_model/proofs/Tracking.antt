-- What holds of every run that agrees with an assignment and that nobody told to stop.
use Rattle.std.proofs.Common.{suc, zero, ◌≡◌, ℕ, ◌+◌, ◌<◌, Bool, true, false, cond, leb, not, ◌||◌, ◌&&◌, List, [], ◌∷◌, ◌++◌, length, Option, Some, None, Ok, map, refl, sym, ap, ◌∙◌, subst, arith, ◌⊎◌, inl, inr}
use Rattle.std.specs.Prelude.{slice_get, is_some}
use Rattle.std.specs.Option.{option_map_or}
use Rattle.std.specs.List.{list_any, list_all, AllByRecursion}
use Rattle.std.proofs.lemmas.Bool.Decides.{nat_tests}
use Rattle.nextest_config_elements_choices.specs.MaxFail.{mode_at}
use Rattle.nextest_config_elements_choices.specs.declared.max_fail.MaxFail.{MaxFail}
use Rattle.nextest_config_elements_choices.specs.declared.max_fail.MaxFail.TheVariants as limits
use Rattle.nextest_config_elements_choices.specs.declared.max_fail.TerminateMode.{TerminateMode}
use Rattle.nextest_config_elements_choices.specs.declared.max_fail.TerminateMode.TheVariants as modes
use Rattle.nextest_run_events_results.specs.declared.cancel_reason.CancelReason.{CancelReason}
use Rattle.nextest_run_events_results.specs.declared.cancel_reason.CancelReason.TheVariants as why
use Rattle.nextest_run_events_results.specs.Result.{is_success}
use Rattle.nextest_run_events_counters.specs.Rows.{fails_test}
use Rattle.nextest_run_events_results.specs.declared.record.Record.{Record}
use Rattle.test_runner_core_run_model.specs.RunPlan.{RunPlan, IsPlan, IsPositiveLimit}
use Rattle.test_runner_core_run_model.specs.declared.run_test.RunTest.{RunTest}
use Rattle.test_runner_core_run_model.specs.Assignment.{Assignment, some_test_fails}
use Rattle.test_runner_core_run_model.specs.State.{TestState, State, initial, waiting, counts, is_finished_mark, failed_weight}
use Rattle.test_runner_core_run_model.specs.Step.{step, script_ended, after_script, state_after_start, attempt_ended, with_test, after_attempt, finishes, after_limit, limit_reason, stopped_by}
use Rattle.test_runner_core_run_model.specs.Runs.{Run, Agrees, AgreesWith, EventAgrees, IsNoStop, try_at}
use Rattle.test_runner_core_run_model.specs.declared.mark.Mark.{Mark}
use Rattle.test_runner_core_run_model.specs.declared.mark.Mark.TheVariants as marks
use Rattle.test_runner_core_run_model.specs.declared.event.Event.{Event}
use Rattle.test_runner_core_run_model.specs.declared.event.Event.TheVariants as events
use Rattle.test_runner_core_run_model.proofs.Counting.{weighs_some}
use Rattle.test_runner_core_run_model.proofs.FirstSuccess.{Fits, unfinished_counts}
use Rattle.test_runner_core_run_model.proofs.TestStates.{AllBeside, beside_at, beside_set, any_set, any_stopped, failed_is_due, fits_after, fits_started, fits_initial}
use Rattle.test_runner_core_run_model.proofs.Scripts.{any_push}
use Rattle.test_runner_core_run_model.proofs.Keeping.{Keeps, keeps_initial, keeps_stopped, keeps_script, keeps_set, script_shows, start_shows, end_shows}

abbrev pub stops : Record → Bool
stops ending = not (is_success ending.result)

abbrev pub is_waiting_mark : Mark → Bool
is_waiting_mark marks.Waiting = true
is_waiting_mark marks.Running = false
is_waiting_mark marks.Between = false
is_waiting_mark (marks.Finished kept) = false

abbrev pub is_waiting : TestState → Bool
is_waiting test = is_waiting_mark test.mark

-- while no reason stands
pub record Going (assigned : Assignment) (state : State) : Type 0 where
  pub fit : AllBeside Fits state.tests assigned.attempt
  pub succeeded : list_any stops state.scripts ≡ false
  pub order : (list_all is_waiting state.tests ≡ true) ⊎ (length state.scripts ≡ state.planned_scripts)

-- once the limit stopped the run
pub record Failing (plan : RunPlan) (assigned : Assignment) (state : State) : Type 0 where
  pub ended : length state.scripts ≡ state.planned_scripts
  pub failed : list_any (counts fails_test) state.tests ≡ true
  pub due : some_test_fails plan.tests assigned.attempt ≡ true

abbrev pub Standing : RunPlan → Assignment → State → Option CancelReason → Type 0
Standing plan assigned state None = Going assigned state
Standing plan assigned state (Some why.SetupScriptFailure) = list_any stops state.scripts ≡ true
Standing plan assigned state (Some why.TestFailure) = Failing plan assigned state
Standing plan assigned state (Some why.TestFailureImmediate) = Failing plan assigned state
Standing plan assigned state (Some why.ReportError) = ⊥
Standing plan assigned state (Some why.GlobalTimeout) = ⊥
Standing plan assigned state (Some why.Signal) = ⊥
Standing plan assigned state (Some why.Interrupt) = ⊥
Standing plan assigned state (Some why.SecondSignal) = ⊥

pub record Tracks (plan : RunPlan) (assigned : Assignment) (state : State) : Type 0 where
  pub keeps : Keeps plan assigned state
  pub standing : Standing plan assigned state state.reason

all_waiting : (tests : List RunTest) → list_all is_waiting (map waiting tests) ≡ true
all_waiting [] = refl
all_waiting (test ∷ tests) = all_waiting tests

pub tracks_initial : (plan : RunPlan) (assigned : Assignment) → IsPlan plan → Tracks plan assigned (initial plan)
tracks_initial plan assigned ok =
    record {
      keeps = keeps_initial plan assigned;
      standing = record { fit = fits_initial plan.tests assigned.attempt ok.tries; succeeded = refl; order = inl (all_waiting plan.tests) };
    }

-- a script ends

tracks_script : (plan : RunPlan) (assigned : Assignment) (old : State) (ending : Record) → Tracks plan assigned old
    → length old.scripts < old.planned_scripts → old.reason ≡ None → ending ≡ assigned.script (length old.scripts)
    → Tracks plan assigned (after_script old ending)
tracks_script plan assigned old ending tracks less going same =
    record { keeps = keeps_script plan assigned old ending tracks.keeps less same; standing = by_success (is_success ending.result) refl }
  where
    now : Going assigned old
    now = subst (Standing plan assigned old) going tracks.standing

    waits : (list_all is_waiting old.tests ≡ true) ⊎ (length old.scripts ≡ old.planned_scripts) → list_all is_waiting old.tests ≡ true
    waits (inl all) = all
    waits (inr ended) = absurd (omega arith)

    stands : State → Type 0
    stands state = Standing plan assigned state state.reason

    by_success : (succeeds : Bool) → is_success ending.result ≡ succeeds
        → stands (cond succeeds (record old { scripts = old.scripts ++ ending ∷ [] }) (stopped_by why.SetupScriptFailure (record old { scripts = old.scripts ++ ending ∷ [] })))
    by_success true s =
        subst (Standing plan assigned (record old { scripts = old.scripts ++ ending ∷ [] })) (sym going)
        (record {
          fit = now.fit;
          succeeded = any_push stops old.scripts ending ∙ ap (λ (b : Bool). b || stops ending) now.succeeded ∙ ap not s;
          order = inl (waits now.order);
        })
    by_success false s = any_push stops old.scripts ending ∙ ap (λ (b : Bool). b || stops ending) now.succeeded ∙ ap not s

step_script : (plan : RunPlan) (assigned : Assignment) (old new : State) (script : ℕ) (ending : Record) → Tracks plan assigned old
    → script_ended old script ending ≡ Ok new → AgreesWith old.reason (assigned.script script) ending → Tracks plan assigned new
step_script plan assigned old new script ending tracks happens agrees =
    let shows = script_shows old new script ending happens in
    let same : ending ≡ assigned.script (length old.scripts) =
    subst (λ (r : Option CancelReason). AgreesWith r (assigned.script script) ending) shows.going agrees ∙ ap assigned.script shows.next in
    subst (Tracks plan assigned) (sym shows.is) (tracks_script plan assigned old ending tracks shows.less shows.going same)

-- an attempt starts

any_waiting : (tests : List TestState) (place : ℕ) (test : TestState) → slice_get tests place ≡ Some test → is_waiting test ≡ false → list_all is_waiting tests ≡ false
any_waiting [] place test found not_it = cc
any_waiting (first ∷ tests) zero test found not_it = let e : first ≡ test = cc in ap (λ (t : TestState). is_waiting t && list_all is_waiting tests) e ∙ ap (λ (b : Bool). b && list_all is_waiting tests) not_it
any_waiting (first ∷ tests) (suc place) test found not_it = and_false (is_waiting first) _ (any_waiting tests place test found not_it)
  where
    and_false : (a b : Bool) → b ≡ false → (a && b) ≡ false
    and_false true b h = h
    and_false false b h = refl

step_start : (plan : RunPlan) (assigned : Assignment) (old new : State) (place : ℕ) → Tracks plan assigned old → state_after_start old place ≡ Ok new → Tracks plan assigned new
step_start plan assigned old new place tracks happens =
    let shows = start_shows old new place happens in
    let running = record shows.test { mark = marks.Running } in
    let now = subst (Standing plan assigned old) shows.going tracks.standing in
    let within = tracks.keeps.within in
    let over = shows.over in
    subst (Tracks plan assigned) (sym shows.is)
    (record {
      keeps = keeps_set plan assigned old place shows.test running tracks.keeps shows.found refl;
      standing = subst (Standing plan assigned (with_test old place running)) (sym shows.going)
          (record {
            fit = beside_set Fits old.tests assigned.attempt place running now.fit
                (fits_started (assigned.attempt place) shows.test (beside_at Fits old.tests assigned.attempt place shows.test now.fit shows.found) shows.unfinished);
            succeeded = now.succeeded;
            order = inr (grind (arith, nat_tests));
          });
    })

-- an attempt ends

-- where a limit that is one is reached, something weighs
pub reaches : (limit : MaxFail) (weighed : ℕ) (mode : TerminateMode) → IsPositiveLimit limit → mode_at limit weighed ≡ Some mode → 0 < weighed
reaches (limits.Count max_fail terminate) weighed mode ok h = by_test (leb max_fail weighed) refl h
  where
    by_test : (b : Bool) → leb max_fail weighed ≡ b → cond b (Some terminate) None ≡ Some mode → 0 < weighed
    by_test true e h' = grind (arith, nat_tests)
    by_test false e h' = cc
reaches limits.All weighed mode ok h = cc

by_limit : (plan : RunPlan) (assigned : Assignment) (state : State) (mode : TerminateMode) → Failing plan assigned state → Standing plan assigned state (Some (limit_reason mode))
by_limit plan assigned state modes.Wait h = h
by_limit plan assigned state modes.Immediate h = h

-- a run that its failing tests may stop still tracks
tracks_limited : (plan : RunPlan) (assigned : Assignment) (state : State) (finished : Bool) → IsPositiveLimit plan.limit → Tracks plan assigned state
    → state.reason ≡ None → length state.scripts ≡ state.planned_scripts → Tracks plan assigned (after_limit finished state)
tracks_limited plan assigned state finished ok tracks going ended =
    by_test (finished && not (is_some state.reason)) (mode_at state.limit (failed_weight state.tests)) refl
  where
    stop : (mode : TerminateMode) → mode_at state.limit (failed_weight state.tests) ≡ Some mode → Tracks plan assigned (stopped_by (limit_reason mode) state)
    stop mode reached =
        let now = subst (Standing plan assigned state) going tracks.standing in
        let limit_ok : IsPositiveLimit state.limit = subst IsPositiveLimit (sym tracks.keeps.limit) ok in
        let failed = weighs_some (counts fails_test) (λ test. test.plan.weight) state.tests (reaches state.limit (failed_weight state.tests) mode limit_ok reached) in
        record {
          keeps = keeps_stopped plan assigned state (limit_reason mode) tracks.keeps;
          standing = by_limit plan assigned (stopped_by (limit_reason mode) state) mode
              (record {
                ended = ended;
                failed = any_stopped fails_test (limit_reason mode) state.tests failed;
                due = subst (λ (ps : List RunTest). some_test_fails ps assigned.attempt ≡ true) tracks.keeps.plans (failed_is_due state.tests assigned.attempt now.fit failed);
              });
        }

    by_test : (b : Bool) (reached : Option TerminateMode) → mode_at state.limit (failed_weight state.tests) ≡ reached
        → Tracks plan assigned (cond b (option_map_or (λ mode. stopped_by (limit_reason mode) state) reached state) state)
    by_test false reached e = tracks
    by_test true None e = tracks
    by_test true (Some mode) e = stop mode e

tracks_end : (plan : RunPlan) (assigned : Assignment) (old : State) (place : ℕ) (ending : Record) (test : TestState) → IsPositiveLimit plan.limit → Tracks plan assigned old
    → slice_get old.tests place ≡ Some test → test.mark ≡ marks.Running → AgreesWith old.reason (assigned.attempt place (length test.records + 1)) ending
    → Tracks plan assigned (after_limit (finishes old test ending) (with_test old place (after_attempt old test ending)))
tracks_end plan assigned old place ending test ok tracks at running agrees = by_reason old.reason refl
  where
    new : State
    new = with_test old place (after_attempt old test ending)

    keeps_after : Keeps plan assigned new
    keeps_after = keeps_set plan assigned old place test (after_attempt old test ending) tracks.keeps at refl

    uncounted : counts fails_test test ≡ false
    uncounted = unfinished_counts fails_test test (ap is_finished_mark running)

    stays : (reason : CancelReason) → old.reason ≡ Some reason → Standing plan assigned new (Some reason) → Tracks plan assigned (after_limit (finishes old test ending) new)
    stays reason e standing =
        subst (Tracks plan assigned) (sym (ap (λ (b : Bool). cond b (option_map_or (λ mode. stopped_by (limit_reason mode) new) (mode_at new.limit (failed_weight new.tests)) new) new)
        (ap (λ (r : Option CancelReason). finishes old test ending && not (is_some r)) e ∙ and_false (finishes old test ending))))
        (record {
          keeps = keeps_after;
          standing = subst (Standing plan assigned new) (sym e) standing;
        })
      where
        and_false : (b : Bool) → (b && false) ≡ false
        and_false true = refl
        and_false false = refl

    fails_still : Failing plan assigned old → Failing plan assigned new
    fails_still h = record { ended = h.ended; failed = any_set (counts fails_test) old.tests place test (after_attempt old test ending) at uncounted h.failed; due = h.due }

    was : (reason : Option CancelReason) → old.reason ≡ reason → Standing plan assigned old reason
    was reason e = subst (Standing plan assigned old) e tracks.standing

    by_reason : (reason : Option CancelReason) → old.reason ≡ reason → Tracks plan assigned (after_limit (finishes old test ending) new)
    by_reason None e =
        let now = was None e in
        let same = subst (λ (r : Option CancelReason). AgreesWith r (assigned.attempt place (length test.records + 1)) ending) e agrees in
        let ended : length old.scripts ≡ old.planned_scripts =
        elim now.order [
          | inl all ↦ let no = any_waiting old.tests place test at (ap is_waiting_mark running) in cc
          | inr over ↦ over
        ] in
        tracks_limited plan assigned new (finishes old test ending) ok
        (record {
          keeps = keeps_after;
          standing = subst (Standing plan assigned new) (sym e)
              (record {
                fit = beside_set Fits old.tests assigned.attempt place (after_attempt old test ending) now.fit
                    (fits_after (assigned.attempt place) old test ending (beside_at Fits old.tests assigned.attempt place test now.fit at) running (inl e) same);
                succeeded = now.succeeded;
                order = inr ended;
              });
        })
        e ended
    by_reason (Some why.SetupScriptFailure) e = stays why.SetupScriptFailure e (was (Some why.SetupScriptFailure) e)
    by_reason (Some why.TestFailure) e = stays why.TestFailure e (fails_still (was (Some why.TestFailure) e))
    by_reason (Some why.TestFailureImmediate) e = stays why.TestFailureImmediate e (fails_still (was (Some why.TestFailureImmediate) e))
    by_reason (Some why.ReportError) e = absurd (was (Some why.ReportError) e)
    by_reason (Some why.GlobalTimeout) e = absurd (was (Some why.GlobalTimeout) e)
    by_reason (Some why.Signal) e = absurd (was (Some why.Signal) e)
    by_reason (Some why.Interrupt) e = absurd (was (Some why.Interrupt) e)
    by_reason (Some why.SecondSignal) e = absurd (was (Some why.SecondSignal) e)

step_end : (plan : RunPlan) (assigned : Assignment) (old new : State) (place : ℕ) (ending : Record) → IsPositiveLimit plan.limit → Tracks plan assigned old
    → attempt_ended old place ending ≡ Ok new → AgreesWith old.reason (assigned.attempt place (try_at old.tests place)) ending → Tracks plan assigned new
step_end plan assigned old new place ending ok tracks happens agrees =
    let shows = end_shows old new place ending happens in
    let agrees_here = subst (λ (o : Option TestState). AgreesWith old.reason (assigned.attempt place (option_map_or (λ t. length t.records + 1) o 1)) ending) shows.found agrees in
    subst (Tracks plan assigned) (sym shows.is) (tracks_end plan assigned old place ending shows.test ok tracks shows.found shows.running agrees_here)

-- each step of such a run, and so the whole run

pub step_tracks : (plan : RunPlan) (assigned : Assignment) (old new : State) (event : Event) → IsPositiveLimit plan.limit → Tracks plan assigned old
    → step old event ≡ Ok new → EventAgrees assigned old event → IsNoStop event → Tracks plan assigned new
step_tracks plan assigned old new (events.ScriptEnded script ending) ok tracks happens agrees plain = step_script plan assigned old new script ending tracks happens agrees
step_tracks plan assigned old new (events.Started test) ok tracks happens agrees plain = step_start plan assigned old new test tracks happens
step_tracks plan assigned old new (events.Ended test ending) ok tracks happens agrees plain = step_end plan assigned old new test ending ok tracks happens agrees
step_tracks plan assigned old new (events.Stopped reason) ok tracks happens agrees plain = absurd plain

pub run_tracks : (plan : RunPlan) (assigned : Assignment) (old : State) (run : List Event) (new : State) → IsPositiveLimit plan.limit → Tracks plan assigned old
    → Run old run new → Agrees assigned old run → AllByRecursion IsNoStop run → Tracks plan assigned new
run_tracks plan assigned old [] new ok tracks happens agrees plain = subst (Tracks plan assigned) (sym happens) tracks
run_tracks plan assigned old (event ∷ run) new ok tracks happens agrees plain =
    let next = step_tracks plan assigned old happens.0 event ok tracks happens.1 agrees.0 plain.0 in
    run_tracks plan assigned happens.0 run new ok next happens.2 (agrees.1 happens.0 happens.1) plain.1

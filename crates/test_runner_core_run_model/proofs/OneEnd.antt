-- When a run that agrees with an assignment is stopped, and that it ends in one state where it
-- isn't.
use Rattle.std.proofs.Common.{suc, zero, ◌≡◌, ℕ, ◌+◌, ◌<◌, ◌≤◌, Bool, true, false, cond, leb, not, ◌||◌, ◌&&◌, List, [], ◌∷◌, ◌++◌, length, Option, Some, None, Ok, map, refl, sym, ap, ◌∙◌, subst, arith, ◌⊎◌, inl, inr}
use Rattle.std.specs.Prelude.{slice_get, slice_set, is_some, unwrap_or}
use Rattle.std.specs.Option.{option_map_or}
use Rattle.std.specs.List.{list_any, list_all, AllByRecursion}
use Rattle.std.proofs.lemmas.Bool.{cases_lt}
use Rattle.std.proofs.lemmas.Bool.Decides.{nat_tests}
use Rattle.std.proofs.lemmas.List.Sums.{sum_by-cons}
use Rattle.nextest_config_elements_choices.specs.MaxFail.{mode_at}
use Rattle.nextest_config_elements_choices.specs.declared.max_fail.MaxFail.{MaxFail}
use Rattle.nextest_config_elements_choices.specs.declared.max_fail.MaxFail.TheVariants as limits
use Rattle.nextest_config_elements_choices.specs.declared.max_fail.TerminateMode.{TerminateMode}
use Rattle.nextest_run_events_results.specs.declared.cancel_reason.CancelReason.{CancelReason}
use Rattle.nextest_run_events_results.specs.declared.cancel_reason.CancelReason.TheVariants as why
use Rattle.nextest_run_events_results.specs.Cancel.{graver_reason, is_inner}
use Rattle.nextest_run_events_results.specs.Result.{is_success}
use Rattle.nextest_run_events_counters.specs.Rows.{fails_test}
use Rattle.nextest_run_events_results.specs.declared.record.Record.{Record}
use Rattle.test_runner_core_run_model.specs.RunPlan.{RunPlan, IsPlan, IsPositiveLimit}
use Rattle.test_runner_core_run_model.specs.declared.run_test.RunTest.{RunTest}
use Rattle.test_runner_core_run_model.specs.Assignment.{Assignment, IsUnstopped, first_success, fails, failing_weight, some_script}
use Rattle.test_runner_core_run_model.specs.Ends.{records_of_tries, first_scripts, final_test, final_tests, final_state}
use Rattle.test_runner_core_run_model.specs.State.{TestState, State, initial, waiting, counts, is_finished, is_finished_mark, failed_weight}
use Rattle.test_runner_core_run_model.specs.Step.{step, with_test, after_script, after_attempt, finishes, after_limit, limit_reason, stopped_by}
use Rattle.test_runner_core_run_model.specs.Finishing.{is_stopped_mark, is_stopped_at}
use Rattle.test_runner_core_run_model.specs.Runs.{Run, Agrees, AgreesWith, EventAgrees, IsNoStop}
use Rattle.test_runner_core_run_model.specs.Laws.{EndsInOneState, StopsWhereDue}
use Rattle.test_runner_core_run_model.specs.declared.mark.Mark.{Mark}
use Rattle.test_runner_core_run_model.specs.declared.mark.Mark.TheVariants as marks
use Rattle.test_runner_core_run_model.specs.declared.event.Event.{Event}
use Rattle.test_runner_core_run_model.specs.declared.event.Event.TheVariants as events
use Rattle.test_runner_core_run_model.specs.declared.step_refusal.StepRefusal.TheVariants as refused
use Rattle.test_runner_core_run_model.proofs.FirstSuccess.{Fits, FitsMark, first_success-stays, finished_counts, unfinished_counts}
use Rattle.test_runner_core_run_model.proofs.TestStates.{plan_of, AllBeside, beside_at, beside_set, fits_after}
use Rattle.test_runner_core_run_model.proofs.Scripts.{any_first, guard_ok, ok_is}
use Rattle.test_runner_core_run_model.proofs.Keeping.{Keeps, keeps_set, script_shows, start_shows, end_shows}
use Rattle.test_runner_core_run_model.proofs.Tracking.{Tracks, Standing, stops, tracks_initial, step_tracks, run_tracks, reaches}
use Rattle.test_runner_core_run_model.proofs.DueStatus.{complete_going}
use Rattle.test_runner_core_run_model.proofs.Finishing.{keeps_reasons}
use Rattle.test_runner_core_run_model.proofs.WholeRuns.{planned_initial, run_planned}

-- ---- what the tests that failed weigh

abbrev pub weighed : TestState → ℕ
weighed test = cond (counts fails_test test) test.plan.weight 0

-- a test that isn't finished weighs nothing
pub unfinished_weighs : (test : TestState) → is_finished test ≡ false → weighed test ≡ 0
unfinished_weighs test unfinished = ap (λ (b : Bool). cond b test.plan.weight 0) (unfinished_counts fails_test test unfinished)

-- it weighs no more than by its assignment
weighed-le : (attempt : ℕ → Record) (test : TestState) → Fits attempt test → weighed test ≤ cond (fails test.plan attempt) test.plan.weight 0
weighed-le attempt test fits = by_finished (is_finished test) refl
  where
    by_finished : (over : Bool) → is_finished test ≡ over → weighed test ≤ cond (fails test.plan attempt) test.plan.weight 0
    by_finished true e =
        let same = ap (λ (b : Bool). cond b test.plan.weight 0) (finished_counts attempt test fits e) in
        omega (arith, same)
    by_finished false e = let none = unfinished_weighs test e in omega (arith, none)

failed-le : (tests : List TestState) (attempt : ℕ → ℕ → Record) → AllBeside Fits tests attempt → failed_weight tests ≤ failing_weight (map plan_of tests) attempt
failed-le [] attempt fits = omega arith
failed-le (test ∷ tests) attempt fits =
    let here = weighed-le (attempt 0) test fits.0 in
    let more = failed-le tests (λ place. attempt (suc place)) fits.1 in
    rw (sum_by-cons weighed test tests) (omega (arith, here, more))

-- and where all tests finished as much
failed_is : (tests : List TestState) (attempt : ℕ → ℕ → Record) → AllBeside Fits tests attempt → list_all is_finished tests ≡ true
    → failed_weight tests ≡ failing_weight (map plan_of tests) attempt
failed_is [] attempt fits over = refl
failed_is (test ∷ tests) attempt fits over =
    let finished = and_parts (is_finished test) (list_all is_finished tests) over in
    let here = ap (λ (b : Bool). cond b test.plan.weight 0) (finished_counts (attempt 0) test fits.0 finished.0) in
    let more = failed_is tests (λ place. attempt (suc place)) fits.1 finished.1 in
    rw (sum_by-cons weighed test tests) (omega (arith, here, more))
  where
    and_parts : (a b : Bool) → (a && b) ≡ true → (a ≡ true) × (b ≡ true)
    and_parts true b h = (refl, h)
    and_parts false b h = cc

-- a test that weighs as much may take another's place
pub set_weighs : (tests : List TestState) (place : ℕ) (old new : TestState) → slice_get tests place ≡ Some old → weighed new ≡ weighed old
    → failed_weight (slice_set tests place new) ≡ failed_weight tests
set_weighs [] place old new found same = cc
set_weighs (first ∷ tests) zero old new found same =
    let e : first ≡ old = cc in
    let here : weighed new ≡ weighed first = same ∙ sym (ap weighed e) in
    rw (sum_by-cons weighed first tests, sum_by-cons weighed new tests) (omega (arith, here))
set_weighs (first ∷ tests) (suc place) old new found same =
    let more = set_weighs tests place old new found same in
    rw (sum_by-cons weighed first tests, sum_by-cons weighed first (slice_set tests place new)) (omega (arith, more))

waiting_weighs : (tests : List RunTest) → failed_weight (map waiting tests) ≡ 0
waiting_weighs [] = refl
waiting_weighs (test ∷ tests) = let more = waiting_weighs tests in rw (sum_by-cons weighed (waiting test) (map waiting tests)) (omega (arith, more))

-- a limit that more don't reach, less don't
less_below : (limit : MaxFail) (less more : ℕ) → less ≤ more → mode_at limit more ≡ None → mode_at limit less ≡ None
less_below (limits.Count max_fail terminate) less more within below = by_tests (leb max_fail more) (leb max_fail less) refl refl below
  where
    by_tests : (b c : Bool) → leb max_fail more ≡ b → leb max_fail less ≡ c → cond b (Some terminate) None ≡ None → cond c (Some terminate) None ≡ None
    by_tests true c e f h = cc
    by_tests false true e f h = absurd (grind (arith, nat_tests))
    by_tests false false e f h = refl
less_below limits.All less more within below = refl

nothing_below : (limit : MaxFail) → IsPositiveLimit limit → mode_at limit 0 ≡ None
nothing_below limit ok = by_mode (mode_at limit 0) refl
  where
    by_mode : (mode : Option TerminateMode) → mode_at limit 0 ≡ mode → mode ≡ None
    by_mode None e = refl
    by_mode (Some mode) e = absurd (let some = reaches limit 0 mode ok e in omega (arith, some))

-- ---- while no reason stands, what failed is below the limit

abbrev pub Below : State → Type 0
Below state = state.reason ≡ None → mode_at state.limit (failed_weight state.tests) ≡ None

same_weight_below : (old : State) (place : ℕ) (test new : TestState) → Below old → slice_get old.tests place ≡ Some test → weighed new ≡ weighed test → Below (with_test old place new)
same_weight_below old place test new below found same none = ap (mode_at old.limit) (set_weighs old.tests place test new found same) ∙ below none

-- an attempt that ends and doesn't finish its test lets it weigh nothing
pub unfinished_after : (state : State) (test : TestState) (ending : Record) → finishes state test ending ≡ false → is_finished (after_attempt state test ending) ≡ false
unfinished_after state test ending e = ap (λ (b : Bool). is_finished_mark (cond b (marks.Finished state.reason) marks.Between)) e

below_limited : (state : State) (finished : Bool) → (finished ≡ false → Below state) → Below (after_limit finished state)
below_limited state finished unfinished = by_tests finished (is_some state.reason) (mode_at state.limit (failed_weight state.tests)) refl refl refl
  where
    by_tests : (f some : Bool) (reached : Option TerminateMode) → finished ≡ f → is_some state.reason ≡ some → mode_at state.limit (failed_weight state.tests) ≡ reached
        → Below (cond (f && not some) (option_map_or (λ mode. stopped_by (limit_reason mode) state) reached state) state)
    by_tests false some reached e s r = unfinished e
    by_tests true true reached e s r = λ none. let no = ap is_some none in cc
    by_tests true false None e s r = λ none. r
    by_tests true false (Some mode) e s r = λ none. cc

step_below : (old new : State) (event : Event) → Below old → step old event ≡ Ok new → Below new
step_below old new (events.ScriptEnded script ending) below happens =
    let shows = script_shows old new script ending happens in
    subst Below (sym shows.is) (by_success (is_success ending.result))
  where
    by_success : (succeeds : Bool) → Below (cond succeeds (record old { scripts = old.scripts ++ ending ∷ [] }) (stopped_by why.SetupScriptFailure (record old { scripts = old.scripts ++ ending ∷ [] })))
    by_success true = below
    by_success false = λ none. cc
step_below old new (events.Started place) below happens =
    let shows = start_shows old new place happens in
    let running = record shows.test { mark = marks.Running } in
    subst Below (sym shows.is)
    (same_weight_below old place shows.test running below shows.found (unfinished_weighs running refl ∙ sym (unfinished_weighs shows.test shows.unfinished)))
step_below old new (events.Ended place ending) below happens =
    let shows = end_shows old new place ending happens in
    let after = after_attempt old shows.test ending in
    subst Below (sym shows.is)
    (below_limited (with_test old place after) (finishes old shows.test ending)
    (λ unfinished.
    same_weight_below old place shows.test after below shows.found
    (unfinished_weighs after (unfinished_after old shows.test ending unfinished) ∙ sym (unfinished_weighs shows.test (ap is_finished_mark shows.running)))))
step_below old new (events.Stopped reason) below happens =
    let free = guard_ok (is_inner reason) refused.InnerReason _ new happens in
    subst Below (sym (ok_is _ new free.1)) (by_reason old.reason)
  where
    by_reason : (given : Option CancelReason) → Below (option_map_or (λ kept. record old { reason = Some (graver_reason kept reason) }) given (stopped_by reason old))
    by_reason None = λ none. cc
    by_reason (Some kept) = λ none. cc

pub run_below : (old : State) (run : List Event) (new : State) → Below old → Run old run new → Below new
run_below old [] new below happens = subst Below (sym happens) below
run_below old (event ∷ run) new below happens = run_below happens.0 run new (step_below old happens.0 event below happens.1) happens.2

pub below_initial : (plan : RunPlan) → IsPlan plan → Below (initial plan)
below_initial plan ok none = ap (mode_at plan.limit) (waiting_weighs plan.tests) ∙ nothing_below plan.limit ok.limit

-- ---- an unstopped assignment lets no reason come up

-- what none of the first scripts does, each of them doesn't
each_script : (test : Record → Bool) (script : ℕ → Record) (scripts place : ℕ) → some_script test script scripts ≡ false → place < scripts → test (script place) ≡ false
each_script test script zero place none less = absurd (omega (arith, less))
each_script test script (suc scripts) place none less =
    let parts = or_parts (some_script test script scripts) (test (script scripts)) none in
    elim (cases_lt place scripts) [
      | inl before ↦ each_script test script scripts place parts.0 before
      | inr behind ↦ let e : place ≡ scripts = omega (arith, less, behind) in ap (λ (p : ℕ). test (script p)) e ∙ parts.1
    ]
  where
    or_parts : (a b : Bool) → (a || b) ≡ false → (a ≡ false) × (b ≡ false)
    or_parts true b h = cc
    or_parts false b h = (refl, h)

script_goes_on : (plan : RunPlan) (assigned : Assignment) (old : State) (ending : Record) → IsUnstopped plan assigned → Tracks plan assigned old → old.reason ≡ None
    → length old.scripts < old.planned_scripts → ending ≡ assigned.script (length old.scripts) → (after_script old ending).reason ≡ None
script_goes_on plan assigned old ending free tracks going less same =
    let planned = tracks.keeps.planned in
    let within : length old.scripts < plan.scripts = omega (arith, less, planned) in
    by_success (is_success ending.result)
    (ap (λ (r : Record). not (is_success r.result)) same ∙ each_script stops assigned.script plan.scripts (length old.scripts) free.scripts within)
  where
    reason_of : State → Option CancelReason
    reason_of state = state.reason

    by_success : (succeeds : Bool) → not succeeds ≡ false
        → reason_of (cond succeeds (record old { scripts = old.scripts ++ ending ∷ [] }) (stopped_by why.SetupScriptFailure (record old { scripts = old.scripts ++ ending ∷ [] }))) ≡ None
    by_success true e = going
    by_success false e = cc

-- where what failed is below the limit it changes nothing
limited_goes_on : (state : State) (finished : Bool) → state.reason ≡ None → mode_at state.limit (failed_weight state.tests) ≡ None → (after_limit finished state).reason ≡ None
limited_goes_on state finished going below = by_tests (finished && not (is_some state.reason)) (mode_at state.limit (failed_weight state.tests)) below
  where
    reason_of : State → Option CancelReason
    reason_of s = s.reason

    by_tests : (b : Bool) (reached : Option TerminateMode) → reached ≡ None
        → reason_of (cond b (option_map_or (λ mode. stopped_by (limit_reason mode) state) reached state) state) ≡ None
    by_tests false reached e = going
    by_tests true None e = going
    by_tests true (Some mode) e = cc

end_goes_on : (plan : RunPlan) (assigned : Assignment) (old : State) (place : ℕ) (ending : Record) (test : TestState) → IsUnstopped plan assigned → Tracks plan assigned old
    → Keeps plan assigned (with_test old place (after_attempt old test ending)) → old.reason ≡ None
    → slice_get old.tests place ≡ Some test → test.mark ≡ marks.Running → ending ≡ assigned.attempt place (length test.records + 1)
    → (after_limit (finishes old test ending) (with_test old place (after_attempt old test ending))).reason ≡ None
end_goes_on plan assigned old place ending test free tracks keeps going found running same =
    let now = subst (Standing plan assigned old) going tracks.standing in
    let after = after_attempt old test ending in
    let new = with_test old place after in
    let fit : AllBeside Fits new.tests assigned.attempt =
    beside_set Fits old.tests assigned.attempt place after now.fit
    (fits_after (assigned.attempt place) old test ending (beside_at Fits old.tests assigned.attempt place test now.fit found) running (inl going) same) in
    let within : failed_weight new.tests ≤ failing_weight plan.tests assigned.attempt =
    subst (λ (ps : List RunTest). failed_weight new.tests ≤ failing_weight ps assigned.attempt) keeps.plans (failed-le new.tests assigned.attempt fit) in
    limited_goes_on new (finishes old test ending) going
    (ap (λ (limit : MaxFail). mode_at limit (failed_weight new.tests)) keeps.limit
    ∙ less_below plan.limit (failed_weight new.tests) (failing_weight plan.tests assigned.attempt) within free.limit)

step_goes_on : (plan : RunPlan) (assigned : Assignment) (old new : State) (event : Event) → IsUnstopped plan assigned → Tracks plan assigned old → old.reason ≡ None
    → step old event ≡ Ok new → EventAgrees assigned old event → IsNoStop event → new.reason ≡ None
step_goes_on plan assigned old new (events.ScriptEnded script ending) free tracks going happens agrees plain =
    let shows = script_shows old new script ending happens in
    let same : ending ≡ assigned.script (length old.scripts) =
    subst (λ (r : Option CancelReason). AgreesWith r (assigned.script script) ending) going agrees ∙ ap assigned.script shows.next in
    ap (λ (s : State). s.reason) shows.is ∙ script_goes_on plan assigned old ending free tracks going shows.less same
step_goes_on plan assigned old new (events.Started place) free tracks going happens agrees plain =
    let shows = start_shows old new place happens in
    ap (λ (s : State). s.reason) shows.is ∙ going
step_goes_on plan assigned old new (events.Ended place ending) free tracks going happens agrees plain =
    let shows = end_shows old new place ending happens in
    let here = subst (λ (o : Option TestState). AgreesWith old.reason (assigned.attempt place (option_map_or (λ t. length t.records + 1) o 1)) ending) shows.found agrees in
    let same = subst (λ (r : Option CancelReason). AgreesWith r (assigned.attempt place (length (shows.test).records + 1)) ending) going here in
    let keeps = keeps_set plan assigned old place shows.test (after_attempt old shows.test ending) tracks.keeps shows.found refl in
    ap (λ (s : State). s.reason) shows.is ∙ end_goes_on plan assigned old place ending shows.test free tracks keeps going shows.found shows.running same
step_goes_on plan assigned old new (events.Stopped reason) free tracks going happens agrees plain = absurd plain

run_goes_on : (plan : RunPlan) (assigned : Assignment) (old : State) (run : List Event) (new : State) → IsPlan plan → IsUnstopped plan assigned → Tracks plan assigned old → old.reason ≡ None
    → Run old run new → Agrees assigned old run → AllByRecursion IsNoStop run → new.reason ≡ None
run_goes_on plan assigned old [] new ok free tracks going happens agrees plain = ap (λ (s : State). s.reason) happens ∙ going
run_goes_on plan assigned old (event ∷ run) new ok free tracks going happens agrees plain =
    let next = step_tracks plan assigned old happens.0 event ok.limit tracks happens.1 agrees.0 plain.0 in
    let goes = step_goes_on plan assigned old happens.0 event free tracks going happens.1 agrees.0 plain.0 in
    run_goes_on plan assigned happens.0 run new ok free next goes happens.2 (agrees.1 happens.0 happens.1) plain.1

-- and where no reason stands at the end, the assignment is unstopped
ended_unstopped : (plan : RunPlan) (assigned : Assignment) (state : State) → Tracks plan assigned state → Below state → state.reason ≡ None
    → length state.scripts ≡ state.planned_scripts → list_all is_finished state.tests ≡ true → IsUnstopped plan assigned
ended_unstopped plan assigned state tracks below going ended over =
    let now = subst (Standing plan assigned state) going tracks.standing in
    record {
      scripts = ap (some_script stops assigned.script) (sym tracks.keeps.planned ∙ sym ended)
          ∙ sym (any_first stops assigned.script (length state.scripts)) ∙ sym (ap (list_any stops) tracks.keeps.scripts) ∙ now.succeeded;
      limit = ap (λ (ps : List RunTest). mode_at plan.limit (failing_weight ps assigned.attempt)) (sym tracks.keeps.plans)
          ∙ ap (mode_at plan.limit) (sym (failed_is state.tests assigned.attempt now.fit over))
          ∙ ap (λ (limit : MaxFail). mode_at limit (failed_weight state.tests)) (sym tracks.keeps.limit) ∙ below going;
    }

pub stops_where_due : StopsWhereDue
stops_where_due plan assigned run last ok happens agrees plain complete =
    let tracks = run_tracks plan assigned (initial plan) run last ok.limit (tracks_initial plan assigned ok) happens agrees plain in
    let below = run_below (initial plan) run last (below_initial plan ok) happens in (
      λ going. let over = complete_going last going complete in ended_unstopped plan assigned last tracks below going over.0 over.1,
      λ free. run_goes_on plan assigned (initial plan) run last ok free (tracks_initial plan assigned ok) refl happens agrees plain,
    )

-- ---- the one end

-- how many tries a finished test took
tries_taken : (attempt : ℕ → Record) (tries number : ℕ)
    → ((first_success attempt number ≡ Some number) × (number ≤ tries)) ⊎ ((first_success attempt number ≡ None) × (number ≡ tries))
    → number ≡ unwrap_or (first_success attempt tries) tries
tries_taken attempt tries number (inl won) = sym (ap (λ (o : Option ℕ). unwrap_or o tries) (first_success-stays attempt number tries number won.1 won.0))
tries_taken attempt tries number (inr lost) = lost.1 ∙ sym (ap (λ (o : Option ℕ). unwrap_or o tries) (ap (first_success attempt) (sym lost.1) ∙ lost.0))

final_one : (attempt : ℕ → Record) (test : TestState) → Fits attempt test → is_finished test ≡ true → is_stopped_mark test.mark ≡ false → test ≡ final_test test.plan attempt
final_one attempt test fits over free = by_mark test.mark refl
  where
    by_mark : (mark : Mark) → test.mark ≡ mark → test ≡ final_test test.plan attempt
    by_mark marks.Waiting e = let no = ap is_finished_mark e in cc
    by_mark marks.Running e = let no = ap is_finished_mark e in cc
    by_mark marks.Between e = let no = ap is_finished_mark e in cc
    by_mark (marks.Finished (Some reason)) e = let no = ap is_stopped_mark e in cc
    by_mark (marks.Finished None) e =
        let number = tries_taken attempt test.plan.tries (length test.records) (subst (FitsMark attempt test.plan.tries (length test.records)) e fits.marked) in
        let records : test.records ≡ records_of_tries attempt (unwrap_or (first_success attempt test.plan.tries) test.plan.tries) = fits.records ∙ ap (records_of_tries attempt) number in
        ap (λ (mark : Mark). record test { mark = mark }) e ∙ ap (λ (rs : List Record). record test { records = rs; mark = marks.Finished None }) records

final_all : (tests : List TestState) (attempt : ℕ → ℕ → Record) → AllBeside Fits tests attempt → list_all is_finished tests ≡ true
    → ((place : ℕ) → is_stopped_at tests place ≡ false) → tests ≡ final_tests (map plan_of tests) attempt
final_all [] attempt fits over free = refl
final_all (test ∷ tests) attempt fits over free =
    let finished = and_parts (is_finished test) (list_all is_finished tests) over in
    let here = final_one (attempt 0) test fits.0 finished.0 (free 0) in
    let more = final_all tests (λ place. attempt (suc place)) fits.1 finished.1 (λ place. free (suc place)) in
    ap (λ (t : TestState). t ∷ tests) here ∙ ap (λ (ts : List TestState). final_test test.plan (attempt 0) ∷ ts) more
  where
    and_parts : (a b : Bool) → (a && b) ≡ true → (a ≡ true) × (b ≡ true)
    and_parts true b h = (refl, h)
    and_parts false b h = cc

-- states with the same parts are the same
same_parts : (a b : State) → a.planned_scripts ≡ b.planned_scripts → a.scripts ≡ b.scripts → a.tests ≡ b.tests → a.limit ≡ b.limit → a.skipped ≡ b.skipped → a.reason ≡ b.reason → a ≡ b
same_parts a b planned scripts tests limit skipped reason =
    ap (λ (x : ℕ). record a { planned_scripts = x }) planned
    ∙ ap (λ (x : List Record). record a { planned_scripts = b.planned_scripts; scripts = x }) scripts
    ∙ ap (λ (x : List TestState). record a { planned_scripts = b.planned_scripts; scripts = b.scripts; tests = x }) tests
    ∙ ap (λ (x : MaxFail). record b { limit = x; skipped = a.skipped; reason = a.reason }) limit
    ∙ ap (λ (x : ℕ). record b { skipped = x; reason = a.reason }) skipped
    ∙ ap (λ (x : Option CancelReason). record b { reason = x }) reason

pub ends_in_one_state : EndsInOneState
ends_in_one_state plan assigned run last ok free happens agrees plain complete =
    let tracks = run_tracks plan assigned (initial plan) run last ok.limit (tracks_initial plan assigned ok) happens agrees plain in
    let planned = run_planned plan (initial plan) run last (planned_initial plan) happens in
    let going = run_goes_on plan assigned (initial plan) run last ok free (tracks_initial plan assigned ok) refl happens agrees plain in
    let now = subst (Standing plan assigned last) going tracks.standing in
    let over = complete_going last going complete in
    let tests = final_all last.tests assigned.attempt now.fit over.1 (keeps_reasons plan run last happens going) in
    same_parts last (final_state plan assigned) planned.planned
    (tracks.keeps.scripts ∙ ap (first_scripts assigned.script) (over.0 ∙ planned.planned))
    (tests ∙ ap (λ (ps : List RunTest). final_tests ps assigned.attempt) planned.plans)
    planned.limit planned.skipped going

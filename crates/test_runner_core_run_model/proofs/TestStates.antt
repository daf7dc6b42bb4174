-- The tests of a run, each beside its assignment.
use Rattle.std.proofs.Common.{suc, zero, ◌≡◌, ℕ, ◌+◌, ◌<◌, Bool, true, false, cond, leb, ◌||◌, ◌&&◌, List, [], ◌∷◌, ◌++◌, length, Option, Some, None, map, refl, sym, ap, ◌∙◌, subst, arith, ◌⊎◌, inl, inr, length-append}
use Rattle.std.specs.Prelude.{slice_get, slice_set, is_some}
use Rattle.std.specs.Bool.{⊤}
use Rattle.std.specs.List.{list_any, list_all, AllByRecursion}
use Rattle.std.proofs.lemmas.Bool.Decides.{nat_tests}
use Rattle.nextest_run_events_results.specs.declared.cancel_reason.CancelReason.{CancelReason}
use Rattle.nextest_run_events_results.specs.Result.{is_success}
use Rattle.nextest_run_events_counters.specs.Rows.{Finished, fails_test}
use Rattle.nextest_run_events_results.specs.declared.record.Record.{Record}
use Rattle.test_runner_core_run_model.specs.declared.run_test.RunTest.{RunTest}
use Rattle.test_runner_core_run_model.specs.Assignment.{first_success, found_or, fails, some_test_fails}
use Rattle.test_runner_core_run_model.specs.Ends.{records_of_tries}
use Rattle.test_runner_core_run_model.specs.State.{TestState, State, waiting, counts, is_finished, is_finished_mark}
use Rattle.test_runner_core_run_model.specs.Step.{finished_by, stopped_mark, after_attempt, finishes}
use Rattle.test_runner_core_run_model.specs.declared.mark.Mark.{Mark}
use Rattle.test_runner_core_run_model.specs.declared.mark.Mark.TheVariants as marks
use Rattle.test_runner_core_run_model.proofs.FirstSuccess.{Fits, FitsMark, finished_counts, unfinished_counts}

abbrev pub plan_of : TestState → RunTest
plan_of test = test.plan

-- what a test may be beside its assignment
abbrev pub Beside : Type 1
Beside = (ℕ → Record) → TestState → Type 0

-- each test is so beside its assignment
abbrev pub AllBeside : Beside → List TestState → (ℕ → ℕ → Record) → Type 0
AllBeside P [] attempt = ⊤
AllBeside P (test ∷ tests) attempt = P (attempt 0) test × AllBeside P tests (λ place. attempt (suc place))

-- a test that is at a place is so beside the assignment of that place
pub beside_at : (P : Beside) (tests : List TestState) (attempt : ℕ → ℕ → Record) (place : ℕ) (test : TestState)
    → AllBeside P tests attempt → slice_get tests place ≡ Some test → P (attempt place) test
beside_at P [] attempt place test all found = cc
beside_at P (first ∷ tests) attempt zero test all found = let e : first ≡ test = cc in subst (P (attempt 0)) e all.0
beside_at P (first ∷ tests) attempt (suc place) test all found = beside_at P tests (λ p. attempt (suc p)) place test all.1 found

-- another test that is so may take its place
pub beside_set : (P : Beside) (tests : List TestState) (attempt : ℕ → ℕ → Record) (place : ℕ) (test : TestState)
    → AllBeside P tests attempt → P (attempt place) test → AllBeside P (slice_set tests place test) attempt
beside_set P [] attempt place test all new = tt
beside_set P (first ∷ tests) attempt zero test all new = (new, all.1)
beside_set P (first ∷ tests) attempt (suc place) test all new = (all.0, beside_set P tests (λ p. attempt (suc p)) place test all.1 new)

-- a test with the same plan in its place changes no plan
pub plans_set : (tests : List TestState) (place : ℕ) (old new : TestState)
    → slice_get tests place ≡ Some old → new.plan ≡ old.plan → map plan_of (slice_set tests place new) ≡ map plan_of tests
plans_set [] place old new found same = cc
plans_set (first ∷ tests) zero old new found same = let e : first ≡ old = cc in ap (λ (p : RunTest). p ∷ map plan_of tests) (same ∙ sym (ap plan_of e))
plans_set (first ∷ tests) (suc place) old new found same = ap (λ (ps : List RunTest). first.plan ∷ ps) (plans_set tests place old new found same)

-- a test that doesn't pass may be replaced: what passed is still there
pub any_set : (p : TestState → Bool) (tests : List TestState) (place : ℕ) (old new : TestState)
    → slice_get tests place ≡ Some old → p old ≡ false → list_any p tests ≡ true → list_any p (slice_set tests place new) ≡ true
any_set p [] place old new found fails_it some = cc
any_set p (first ∷ tests) zero old new found fails_it some =
    let e : first ≡ old = cc in
    let no : p first ≡ false = ap p e ∙ fails_it in
    by_first (p new) (list_any p tests) (ap (λ (b : Bool). b || list_any p tests) (sym no) ∙ some)
  where
    by_first : (b more : Bool) → more ≡ true → (b || more) ≡ true
    by_first true more h = refl
    by_first false more h = h
any_set p (first ∷ tests) (suc place) old new found fails_it some =
    by_first (p first) (list_any p tests) some (any_set p tests place old new found fails_it)
  where
    by_first : (b more : Bool) → (b || more) ≡ true → (more ≡ true → list_any p (slice_set tests place new) ≡ true) → (b || list_any p (slice_set tests place new)) ≡ true
    by_first true more h go = refl
    by_first false more h go = go h

-- a stop changes no plan
pub plans_stopped : (reason : CancelReason) (tests : List TestState) → map plan_of (map (finished_by reason) tests) ≡ map plan_of tests
plans_stopped reason [] = refl
plans_stopped reason (test ∷ tests) = ap (λ (ps : List RunTest). test.plan ∷ ps) (plans_stopped reason tests)

-- a test that counts in a row still does after a stop
pub counts_stopped : (row : Finished → Bool) (reason : CancelReason) (test : TestState) → counts row test ≡ true → counts row (finished_by reason test) ≡ true
counts_stopped row reason test h = by_mark test.mark refl
  where
    by_mark : (mark : Mark) → test.mark ≡ mark → counts row (finished_by reason test) ≡ true
    by_mark marks.Waiting e = let no = unfinished_counts row test (ap is_finished_mark e) in cc
    by_mark marks.Running e = let no = unfinished_counts row test (ap is_finished_mark e) in cc
    by_mark marks.Between e = let no = unfinished_counts row test (ap is_finished_mark e) in cc
    by_mark (marks.Finished kept) e =
        subst (λ (mark : Mark). counts row (record { plan = test.plan; records = test.records; mark = mark }) ≡ true) (e ∙ sym (ap (stopped_mark reason) e)) h

pub any_stopped : (row : Finished → Bool) (reason : CancelReason) (tests : List TestState)
    → list_any (counts row) tests ≡ true → list_any (counts row) (map (finished_by reason) tests) ≡ true
any_stopped row reason [] some = some
any_stopped row reason (test ∷ tests) some =
    by_first (counts row test) (list_any (counts row) tests) (counts row (finished_by reason test)) some (counts_stopped row reason test) (any_stopped row reason tests)
  where
    by_first : (b more now : Bool) → (b || more) ≡ true → (b ≡ true → now ≡ true) → (more ≡ true → list_any (counts row) (map (finished_by reason) tests) ≡ true)
        → (now || list_any (counts row) (map (finished_by reason) tests)) ≡ true
    by_first true more now h first go = ap (λ (x : Bool). x || list_any (counts row) (map (finished_by reason) tests)) (first refl)
    by_first false more true h first go = refl
    by_first false more false h first go = go h

-- where a finished test counts as failing, a test of the assignment fails
pub failed_is_due : (tests : List TestState) (attempt : ℕ → ℕ → Record) → AllBeside Fits tests attempt
    → list_any (counts fails_test) tests ≡ true → some_test_fails (map plan_of tests) attempt ≡ true
failed_is_due [] attempt fits some = some
failed_is_due (test ∷ tests) attempt fits some =
    by_first (is_finished test) refl (list_any (counts fails_test) tests) some (failed_is_due tests (λ p. attempt (suc p)) fits.1)
  where
    by_first : (over : Bool) → is_finished test ≡ over → (more : Bool) → (counts fails_test test || more) ≡ true
        → (more ≡ true → some_test_fails (map plan_of tests) (λ p. attempt (suc p)) ≡ true)
        → (fails test.plan (attempt 0) || some_test_fails (map plan_of tests) (λ p. attempt (suc p))) ≡ true
    by_first true e more h go =
        let same = finished_counts (attempt 0) test fits.0 e in
        by_both (fails test.plan (attempt 0)) more (sym (ap (λ (b : Bool). b || more) same) ∙ h) go
      where
        by_both : (b m : Bool) → (b || m) ≡ true → (m ≡ true → some_test_fails (map plan_of tests) (λ p. attempt (suc p)) ≡ true)
            → (b || some_test_fails (map plan_of tests) (λ p. attempt (suc p))) ≡ true
        by_both true m h' go' = refl
        by_both false m h' go' = go' h'
    by_first false e more h go =
        let none = unfinished_counts fails_test test e in
        let rest = go (sym (ap (λ (b : Bool). b || more) none) ∙ h) in
        by_either (fails test.plan (attempt 0)) _ rest
      where
        by_either : (b m : Bool) → m ≡ true → (b || m) ≡ true
        by_either true m h' = refl
        by_either false m h' = h'

-- where all tests finished, one counts as failing exactly if one of the assignment fails
pub finished_is_due : (tests : List TestState) (attempt : ℕ → ℕ → Record) → AllBeside Fits tests attempt → list_all is_finished tests ≡ true
    → list_any (counts fails_test) tests ≡ some_test_fails (map plan_of tests) attempt
finished_is_due [] attempt fits all = refl
finished_is_due (test ∷ tests) attempt fits all =
    by_first (is_finished test) refl (list_all is_finished tests) all (finished_is_due tests (λ p. attempt (suc p)) fits.1)
  where
    by_first : (over : Bool) → is_finished test ≡ over → (more : Bool) → (over && more) ≡ true
        → (more ≡ true → list_any (counts fails_test) tests ≡ some_test_fails (map plan_of tests) (λ p. attempt (suc p)))
        → (counts fails_test test || list_any (counts fails_test) tests) ≡ (fails test.plan (attempt 0) || some_test_fails (map plan_of tests) (λ p. attempt (suc p)))
    by_first true e more h go =
        let same = finished_counts (attempt 0) test fits.0 e in
        let rest = go h in cc
    by_first false e more h go = cc

-- how far a test is after one more try that was a success, or that ended while no reason stood
mark_after : (attempt : ℕ → Record) (tries number : ℕ) (ending : Record) (reason : Option CancelReason)
    → ending ≡ attempt (suc number) → (reason ≡ None) ⊎ (is_success ending.result ≡ true) → number < tries → first_success attempt number ≡ None
    → FitsMark attempt tries (suc number) (cond (is_success ending.result || leb tries (number + 1) || is_some reason) (marks.Finished reason) marks.Between)
mark_after attempt tries number ending reason same regular less none =
    by_tests reason (is_success ending.result) (leb tries (number + 1)) (ap (λ (r : Record). is_success r.result) (sym same)) refl regular
  where
    by_tests : (reason : Option CancelReason) (succeeds last : Bool) → is_success (attempt (suc number)).result ≡ succeeds → leb tries (number + 1) ≡ last
        → (reason ≡ None) ⊎ (succeeds ≡ true) → FitsMark attempt tries (suc number) (cond (succeeds || last || is_some reason) (marks.Finished reason) marks.Between)
    by_tests reason true last s l regular =
        inl (ap (λ (o : Option ℕ). found_or o (is_success (attempt (suc number)).result) (suc number)) none ∙ ap (λ (b : Bool). found_or None b (suc number)) s, omega arith)
    by_tests None false true s l regular =
        inr (ap (λ (o : Option ℕ). found_or o (is_success (attempt (suc number)).result) (suc number)) none ∙ ap (λ (b : Bool). found_or None b (suc number)) s, grind (arith, nat_tests))
    by_tests None false false s l regular =
        (grind (arith, nat_tests), ap (λ (o : Option ℕ). found_or o (is_success (attempt (suc number)).result) (suc number)) none ∙ ap (λ (b : Bool). found_or None b (suc number)) s, omega arith)
    by_tests (Some given) false last s l regular = elim regular [ inl e ↦ cc | inr e ↦ cc ]

-- an attempt that ran as it was assigned leaves the test fitting, where it is a success or no
-- reason stands
pub fits_after : (attempt : ℕ → Record) (state : State) (test : TestState) (ending : Record)
    → Fits attempt test → test.mark ≡ marks.Running → (state.reason ≡ None) ⊎ (is_success ending.result ≡ true) → ending ≡ attempt (length test.records + 1)
    → Fits attempt (after_attempt state test ending)
fits_after attempt state test ending fits running regular same =
    let number = length test.records in
    let open_still = subst (FitsMark attempt test.plan.tries number) running fits.marked in
    let next : number + 1 ≡ suc number = omega arith in
    let count : length (test.records ++ ending ∷ []) ≡ suc number = omega (arith, length-append test.records (ending ∷ [])) in
    let same_next : ending ≡ attempt (suc number) = same ∙ ap attempt next in
    record {
      tries = fits.tries;
      records = ap (λ (xs : List Record). xs ++ ending ∷ []) fits.records ∙ ap (λ (r : Record). records_of_tries attempt number ++ r ∷ []) same_next ∙ sym (ap (records_of_tries attempt) count);
      marked = subst (λ (m : ℕ). FitsMark attempt test.plan.tries m (cond (finishes state test ending) (marks.Finished state.reason) marks.Between)) (sym count)
          (mark_after attempt test.plan.tries number ending state.reason same_next regular open_still.0 open_still.1);
    }

-- a test that starts fits as before
pub fits_started : (attempt : ℕ → Record) (test : TestState) → Fits attempt test → is_finished test ≡ false → Fits attempt (record test { mark = marks.Running })
fits_started attempt test fits open_still =
    record { tries = fits.tries; records = fits.records; marked = by_mark test.mark (open_still) fits.marked }
  where
    by_mark : (mark : Mark) → is_finished_mark mark ≡ false → FitsMark attempt test.plan.tries (length test.records) mark
        → FitsMark attempt test.plan.tries (length test.records) marks.Running
    by_mark marks.Waiting o h = h
    by_mark marks.Running o h = h
    by_mark marks.Between o h = (h.0, h.1)
    by_mark (marks.Finished kept) o h = cc

-- all tests fit in the state in which nothing ended
pub fits_initial : (tests : List RunTest) (attempt : ℕ → ℕ → Record) → AllByRecursion (λ test. 0 < test.tries) tests → AllBeside Fits (map waiting tests) attempt
fits_initial [] attempt tries = tt
fits_initial (test ∷ tests) attempt tries =
    (record { tries = tries.0; records = refl; marked = (tries.0, refl) }, fits_initial tests (λ p. attempt (suc p)) tries.1)

pub plans_initial : (tests : List RunTest) → map plan_of (map waiting tests) ≡ tests
plans_initial [] = refl
plans_initial (test ∷ tests) = ap (λ (ps : List RunTest). test ∷ ps) (plans_initial tests)

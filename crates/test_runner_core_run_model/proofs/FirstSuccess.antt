-- A test whose records are those of its assignment fares as the assignment says.
use Rattle.std.proofs.Common.{suc, zero, ◌≡◌, ℕ, ◌-◌, ◌<◌, ◌≤◌, Bool, true, false, ltb, ◌||◌, ◌&&◌, List, [], ◌∷◌, ◌++◌, length, Option, Some, None, refl, sym, ap, ◌∙◌, subst, arith, ◌⊎◌, inl, inr, length-append}
use Rattle.std.specs.List.{slice_get}
use Rattle.std.specs.Option.{option_map_or}
use Rattle.std.proofs.lemmas.Bool.{cases_lt}
use Rattle.nextest_config_elements_choices.specs.declared.timeouts.FlakyResult.{FlakyResult}
use Rattle.nextest_config_elements_choices.specs.declared.timeouts.LeakTimeoutResult.TheVariants as leak_judged
use Rattle.nextest_config_elements_choices.specs.declared.timeouts.SlowTimeoutResult.TheVariants as timeout_judged
use Rattle.nextest_run_events_results.specs.declared.result.ExecutionResultDescription.{ExecutionResultDescription}
use Rattle.nextest_run_events_results.specs.declared.result.ExecutionResultDescription.TheVariants as ended
use Rattle.nextest_run_events_results.specs.Result.{is_success}
use Rattle.nextest_run_events_counters.specs.Rows.{Finished, fails_test, forbids_late}
use Rattle.nextest_run_events_results.specs.declared.record.Record.{Record}
use Rattle.test_runner_core_run_model.specs.declared.run_test.RunTest.{RunTest}
use Rattle.test_runner_core_run_model.specs.Assignment.{first_success, found_or, fails, fails_by_first}
use Rattle.test_runner_core_run_model.specs.Ends.{records_of_tries}
use Rattle.test_runner_core_run_model.specs.State.{TestState, counts, is_finished, is_finished_mark, last_record, finished_as}
use Rattle.test_runner_core_run_model.specs.declared.mark.Mark.{Mark}
use Rattle.test_runner_core_run_model.specs.declared.mark.Mark.TheVariants as marks

or_nothing : (b : Bool) → ((((b || false) || false) || false) || false) ≡ b
or_nothing true = refl
or_nothing false = refl

-- a success counts as failing exactly if it is late against the flaky rule
pub success_fails : (result : ExecutionResultDescription) (slow late : Bool) (flaky : FlakyResult) → is_success result ≡ true
    → fails_test (record { result = result; slow = slow; late = late; flaky = flaky }) ≡ (late && forbids_late flaky)
success_fails ended.Pass slow late flaky h = or_nothing (late && forbids_late flaky)
success_fails (ended.Leak leak_judged.Pass) slow late flaky h = or_nothing (late && forbids_late flaky)
success_fails (ended.Leak leak_judged.Fail) slow late flaky h = cc
success_fails (ended.Fail failure leaked) slow late flaky h = cc
success_fails ended.ExecFail slow late flaky h = cc
success_fails (ended.Timeout timeout_judged.Pass) slow late flaky h = or_nothing (late && forbids_late flaky)
success_fails (ended.Timeout timeout_judged.Fail) slow late flaky h = cc

-- what is no success counts as failing
pub failure_fails : (result : ExecutionResultDescription) (slow late : Bool) (flaky : FlakyResult) → is_success result ≡ false
    → fails_test (record { result = result; slow = slow; late = late; flaky = flaky }) ≡ true
failure_fails ended.Pass slow late flaky h = cc
failure_fails (ended.Leak leak_judged.Pass) slow late flaky h = cc
failure_fails (ended.Leak leak_judged.Fail) slow late flaky h = refl
failure_fails (ended.Fail failure leaked) slow late flaky h = refl
failure_fails ended.ExecFail slow late flaky h = refl
failure_fails (ended.Timeout timeout_judged.Pass) slow late flaky h = cc
failure_fails (ended.Timeout timeout_judged.Fail) slow late flaky h = refl

-- the element behind others
slice_get-last : (xs : List Record) (x : Record) → slice_get (xs ++ x ∷ []) (length xs) ≡ Some x
slice_get-last [] x = refl
slice_get-last (y ∷ xs) x = slice_get-last xs x

pub last_record-push : (xs : List Record) (x : Record) → last_record (xs ++ x ∷ []) ≡ Some x
last_record-push xs x =
    let place : length (xs ++ x ∷ []) - 1 ≡ length xs = omega (arith, length-append xs (x ∷ [])) in
    ap (slice_get (xs ++ x ∷ [])) place ∙ slice_get-last xs x

-- a first success is among the tries
pub first_success-within : (attempt : ℕ → Record) (tries number : ℕ) → first_success attempt tries ≡ Some number → number ≤ tries
first_success-within attempt zero number h = cc
first_success-within attempt (suc tries) number h =
    by_before (first_success attempt tries) (is_success (attempt (suc tries)).result) h (λ k e. first_success-within attempt tries k e)
  where
    by_before : (before : Option ℕ) (succeeds : Bool) → found_or before succeeds (suc tries) ≡ Some number
        → ((k : ℕ) → before ≡ Some k → k ≤ tries) → number ≤ suc tries
    by_before (Some k) succeeds h within = let e : k ≡ number = cc in let small = within k refl in omega arith
    by_before None true h within = let e : suc tries ≡ number = cc in omega arith
    by_before None false h within = cc

-- more tries don't change a first success
pub first_success-stays : (attempt : ℕ → Record) (tries all number : ℕ) → tries ≤ all → first_success attempt tries ≡ Some number
    → first_success attempt all ≡ Some number
first_success-stays attempt tries zero number within h = let e : tries ≡ 0 = omega arith in subst (λ (n : ℕ). first_success attempt n ≡ Some number) e h
first_success-stays attempt tries (suc all) number within h =
    elim (cases_lt tries (suc all)) [
      | inl less ↦ ap (λ (before : Option ℕ). found_or before (is_success (attempt (suc all)).result) (suc all)) (first_success-stays attempt tries all number (omega arith) h)
      | inr more ↦ let e : tries ≡ suc all = omega arith in subst (λ (n : ℕ). first_success attempt n ≡ Some number) e h
    ]

-- how far a test is that has so many records of its assignment
abbrev pub FitsMark : (ℕ → Record) → ℕ → ℕ → Mark → Type 0
FitsMark attempt tries ended_tries marks.Waiting = (ended_tries < tries) × (first_success attempt ended_tries ≡ None)
FitsMark attempt tries ended_tries marks.Running = (ended_tries < tries) × (first_success attempt ended_tries ≡ None)
FitsMark attempt tries ended_tries marks.Between = (ended_tries < tries) × (first_success attempt ended_tries ≡ None) × (0 < ended_tries)
FitsMark attempt tries ended_tries (marks.Finished reason) =
    ((first_success attempt ended_tries ≡ Some ended_tries) × (ended_tries ≤ tries)) ⊎ ((first_success attempt ended_tries ≡ None) × (ended_tries ≡ tries))

-- a test whose records are those of the first tries, and that is as far as they say
pub record Fits (attempt : ℕ → Record) (test : TestState) : Type 0 where
  pub tries : 0 < test.plan.tries
  pub records : test.records ≡ records_of_tries attempt (length test.records)
  pub marked : FitsMark attempt test.plan.tries (length test.records) test.mark

-- a finished test with such records counts as failing exactly if the test fails
last_counts : (attempt : ℕ → Record) (plan : RunTest) (records : List Record) (kept : Mark) (tries : ℕ) → 0 < plan.tries
    → records ≡ records_of_tries attempt tries → length records ≡ tries
    → ((first_success attempt tries ≡ Some tries) × (tries ≤ plan.tries)) ⊎ ((first_success attempt tries ≡ None) × (tries ≡ plan.tries))
    → option_map_or (λ ending. fails_test (finished_as (record { plan = plan; records = records; mark = kept }) ending)) (last_record records) false ≡ fails plan attempt
last_counts attempt plan records kept zero some e n first = elim first [ inl won ↦ cc | inr lost ↦ absurd (omega arith) ]
last_counts attempt plan records kept (suc tries) some e n first =
    let last : last_record records ≡ Some (attempt (suc tries)) = ap last_record e ∙ last_record-push (records_of_tries attempt tries) (attempt (suc tries)) in
    ap (λ (o : Option Record). option_map_or (λ ending. fails_test (finished_as (record { plan = plan; records = records; mark = kept }) ending)) o false) last
    ∙ by_success (first_success attempt tries) (is_success (attempt (suc tries)).result) refl refl first
  where
    by_success : (before : Option ℕ) (succeeds : Bool) → first_success attempt tries ≡ before → is_success (attempt (suc tries)).result ≡ succeeds
        → ((first_success attempt (suc tries) ≡ Some (suc tries)) × (suc tries ≤ plan.tries)) ⊎ ((first_success attempt (suc tries) ≡ None) × (suc tries ≡ plan.tries))
        → fails_test (finished_as (record { plan = plan; records = records; mark = kept }) (attempt (suc tries))) ≡ fails plan attempt
    by_success (Some k) succeeds b s first =
        let small = first_success-within attempt tries k b in
        let now : first_success attempt (suc tries) ≡ Some k = ap (λ (o : Option ℕ). found_or o (is_success (attempt (suc tries)).result) (suc tries)) b in
        elim first [
          | inl won ↦ let same : Some k ≡ Some (suc tries) = sym now ∙ won.0 in let e : k ≡ suc tries = cc in absurd (omega arith)
          | inr lost ↦ let same : Some k ≡ None = sym now ∙ lost.0 in cc
        ]
    by_success None true b s first =
        let now : first_success attempt (suc tries) ≡ Some (suc tries) =
        ap (λ (o : Option ℕ). found_or o (is_success (attempt (suc tries)).result) (suc tries)) b ∙ ap (λ (t : Bool). found_or None t (suc tries)) s in
        elim first [
          | inl won ↦
              success_fails (attempt (suc tries)).result (attempt (suc tries)).slow (ltb 1 (length records)) plan.flaky s
              ∙ ap (λ (m : ℕ). ltb 1 m && forbids_late plan.flaky) n
              ∙ sym (ap (fails_by_first plan.flaky) (first_success-stays attempt (suc tries) plan.tries (suc tries) won.1 now))
          | inr lost ↦ let same : Some (suc tries) ≡ None = sym now ∙ lost.0 in cc
        ]
    by_success None false b s first =
        let now : first_success attempt (suc tries) ≡ None =
        ap (λ (o : Option ℕ). found_or o (is_success (attempt (suc tries)).result) (suc tries)) b ∙ ap (λ (t : Bool). found_or None t (suc tries)) s in
        elim first [
          | inl won ↦ let same : Some (suc tries) ≡ None = sym won.0 ∙ now in cc
          | inr lost ↦
              failure_fails (attempt (suc tries)).result (attempt (suc tries)).slow (ltb 1 (length records)) plan.flaky s
              ∙ sym (ap (fails_by_first plan.flaky) (ap (first_success attempt) (sym lost.1) ∙ now))
        ]

pub finished_counts : (attempt : ℕ → Record) (test : TestState) → Fits attempt test → is_finished test ≡ true → counts fails_test test ≡ fails test.plan attempt
finished_counts attempt test fits over = by_mark test.mark refl
  where
    by_mark : (mark : Mark) → test.mark ≡ mark → counts fails_test test ≡ fails test.plan attempt
    by_mark marks.Waiting e = let no = ap is_finished_mark e in cc
    by_mark marks.Running e = let no = ap is_finished_mark e in cc
    by_mark marks.Between e = let no = ap is_finished_mark e in cc
    by_mark (marks.Finished reason) e =
        ap (λ (b : Bool). b && option_map_or (λ ending. fails_test (finished_as test ending)) (last_record test.records) false) over
        ∙ last_counts attempt test.plan test.records test.mark (length test.records) fits.tries fits.records refl
        (subst (FitsMark attempt test.plan.tries (length test.records)) e fits.marked)

-- a test that isn't finished doesn't count
pub unfinished_counts : (row : Finished → Bool) (test : TestState) → is_finished test ≡ false → counts row test ≡ false
unfinished_counts row test open_still = ap (λ (b : Bool). b && option_map_or (λ ending. row (finished_as test ending)) (last_record test.records) false) open_still

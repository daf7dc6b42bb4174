-- The status of a run that agrees with an assignment is the due one or a graver one, wherever the
-- run is.
use Rattle.std.proofs.Common.{suc, ◌≡◌, ◌↔◌, ℕ, Bool, true, false, ltb, eqb, ◌||◌, ◌&&◌, List, [], ◌∷◌, length, map, refl, sym, ap, ◌∙◌, subst, arith, inl, inr, count_by}
use Rattle.std.specs.List.{list_any, list_all}
use Rattle.std.proofs.lemmas.List.{length-map}
use Rattle.std.proofs.lemmas.Bool.Decides.{nat_tests}
use Rattle.nextest_run_events_counters.specs.Rows.{fails_test}
use Rattle.nextest_run_events_results.specs.declared.record.Record.{Record}
use Rattle.test_runner_core_run_model.specs.RunPlan.{RunPlan, IsPlan}
use Rattle.test_runner_core_run_model.specs.declared.run_test.RunTest.{RunTest}
use Rattle.test_runner_core_run_model.specs.Assignment.{Assignment, fails, some_script, some_test_fails, due_status}
use Rattle.test_runner_core_run_model.specs.State.{TestState, State, initial, counts, is_finished}
use Rattle.test_runner_core_run_model.specs.Counters.{status}
use Rattle.test_runner_core_run_model.specs.Runs.{IsNoMilder}
use Rattle.test_runner_core_run_model.specs.Laws.{AgreesWhereCut, EndsNoMilder, HasFourExactlyWhereDue}
use Rattle.test_runner_core_run_model.proofs.Counting.{counts_all, all_counted}
use Rattle.test_runner_core_run_model.proofs.FirstSuccess.{finished_counts}
use Rattle.test_runner_core_run_model.proofs.TestStates.{plan_of, AllBeside}
use Rattle.test_runner_core_run_model.proofs.Keeping.{Keeps}
use Rattle.test_runner_core_run_model.proofs.Holding.{Fares, Holds, holds_initial, run_holds}
use Rattle.test_runner_core_run_model.proofs.DueStatus.{fails_told, status_by, due_by, status_is, script_status, tests_status, due_of_tests, ended_scripts, script_due, is_empty}

-- where all tests finished and none counts as failing, none of the assignment fails
none_fails : (tests : List TestState) (attempt : ℕ → ℕ → Record) → AllBeside Fares tests attempt → list_all is_finished tests ≡ true
    → list_any (counts fails_test) tests ≡ false → some_test_fails (map plan_of tests) attempt ≡ false
none_fails [] attempt all over none = refl
none_fails (test ∷ tests) attempt all over none =
    let here = or_parts (counts fails_test test) (list_any (counts fails_test) tests) none in
    let finished = and_parts (is_finished test) (list_all is_finished tests) over in
    let more = none_fails tests (λ p. attempt (suc p)) all.1 finished.1 here.1 in
    ap (λ (b : Bool). fails test.plan (attempt 0) || b) more ∙ ap (λ (b : Bool). b || false) (alone all.0 finished.0 here.0)
  where
    or_parts : (a b : Bool) → (a || b) ≡ false → (a ≡ false) × (b ≡ false)
    or_parts true b h = cc
    or_parts false b h = (refl, h)

    and_parts : (a b : Bool) → (a && b) ≡ true → (a ≡ true) × (b ≡ true)
    and_parts true b h = (refl, h)
    and_parts false b h = cc

    alone : Fares (attempt 0) test → is_finished test ≡ true → counts fails_test test ≡ false → fails test.plan (attempt 0) ≡ false
    alone (inl fits) over' none' = sym (finished_counts (attempt 0) test fits over') ∙ none'
    alone (inr failed) over' none' = cc

-- a status of 105 is no milder than any that is due where tests are selected
pending_no_milder : (script test : Bool) → IsNoMilder 105 (due_by false script test)
pending_no_milder true test = inl refl
pending_no_milder false true = inr (inr (refl, refl))
pending_no_milder false false = inr (inl (refl, inr refl))

-- while scripts are left
pending_ends : (plan : RunPlan) (assigned : Assignment) (state : State) → IsPlan plan → Keeps plan assigned state → list_any fails_told state.scripts ≡ false
    → ltb (length state.scripts) state.planned_scripts ≡ true → IsNoMilder (status state) (due_status plan assigned)
pending_ends plan assigned state ok keeps none left =
    let selected = by_empty (eqb (length plan.tests) 0) refl in
    let now : status state ≡ 105 =
    status_is state
    ∙ ap (λ (b : Bool). status_by b (ltb (length state.scripts) state.planned_scripts) (list_any (counts fails_test) state.tests)
    (ltb (count_by is_finished state.tests) (length state.tests)) (eqb (count_by is_finished state.tests) 0)) none
    ∙ ap (λ (b : Bool). status_by false b (list_any (counts fails_test) state.tests)
    (ltb (count_by is_finished state.tests) (length state.tests)) (eqb (count_by is_finished state.tests) 0)) left in
    let due : due_status plan assigned ≡ due_by false script test = ap (λ (b : Bool). due_by b script test) selected in
    subst (λ (n : ℕ). IsNoMilder n (due_status plan assigned)) (sym now) (subst (IsNoMilder 105) (sym due) (pending_no_milder script test))
  where
    script : Bool
    script = some_script fails_told assigned.script plan.scripts

    test : Bool
    test = some_test_fails plan.tests assigned.attempt

    by_empty : (empty : Bool) → eqb (length plan.tests) 0 ≡ empty → eqb (length plan.tests) 0 ≡ false
    by_empty true e =
        let alone = ok.no_lone_script (is_empty plan.tests e) in
        let planned = keeps.planned in absurd (grind (arith, nat_tests))
    by_empty false e = e

-- once all scripts ended well
tests_end : (plan : RunPlan) (assigned : Assignment) (state : State) → Holds plan assigned state → list_any fails_told state.scripts ≡ false
    → length state.scripts ≡ state.planned_scripts → IsNoMilder (status state) (due_status plan assigned)
tests_end plan assigned state holds none over =
    subst (λ (n : ℕ). IsNoMilder n (due_status plan assigned)) (sym (tests_status state none over))
    (subst (IsNoMilder (status_by false false failing unfinished nothing))
    (sym (due_of_tests plan assigned (sym (ended_scripts plan assigned state holds.keeps over) ∙ none)))
    (by_tests failing unfinished nothing (eqb (length plan.tests) 0) (some_test_fails plan.tests assigned.attempt) where_empty where_selected where_finished))
  where
    failing : Bool
    failing = list_any (counts fails_test) state.tests

    unfinished : Bool
    unfinished = ltb (count_by is_finished state.tests) (length state.tests)

    nothing : Bool
    nothing = eqb (count_by is_finished state.tests) 0

    number : length state.tests ≡ length plan.tests
    number = sym (length-map state.tests plan_of) ∙ ap length holds.keeps.plans

    where_empty : eqb (length plan.tests) 0 ≡ true → (failing ≡ false) × (unfinished ≡ false) × (nothing ≡ true)
    where_empty e =
        let none_here = is_empty state.tests (ap (λ (n : ℕ). eqb n 0) number ∙ e) in (
          ap (list_any (counts fails_test)) none_here,
          ap (λ (ts : List TestState). ltb (count_by is_finished ts) (length ts)) none_here,
          ap (λ (ts : List TestState). eqb (count_by is_finished ts) 0) none_here,
        )

    where_selected : eqb (length plan.tests) 0 ≡ false → unfinished ≡ false → nothing ≡ false
    where_selected e u =
        let all = counts_all is_finished state.tests (all_counted is_finished state.tests u) in
        ap (λ (n : ℕ). eqb n 0) (all ∙ number) ∙ e

    where_finished : failing ≡ false → unfinished ≡ false → some_test_fails plan.tests assigned.attempt ≡ false
    where_finished f u =
        sym (ap (λ (ps : List RunTest). some_test_fails ps assigned.attempt) holds.keeps.plans)
        ∙ none_fails state.tests assigned.attempt holds.fare (all_counted is_finished state.tests u) f

    by_tests : (fails_now open_still nothing_ran empty due : Bool) → (empty ≡ true → (fails_now ≡ false) × (open_still ≡ false) × (nothing_ran ≡ true))
        → (empty ≡ false → open_still ≡ false → nothing_ran ≡ false) → (fails_now ≡ false → open_still ≡ false → due ≡ false)
        → IsNoMilder (status_by false false fails_now open_still nothing_ran) (due_by empty false due)
    by_tests true o n true due e s f = let h = e refl in cc
    by_tests false true n true due e s f = let h = e refl in cc
    by_tests false false false true due e s f = let h = e refl in cc
    by_tests false false true true due e s f = inl refl
    by_tests true o n false true e s f = inl refl
    by_tests true o n false false e s f = inr (inl (refl, inl refl))
    by_tests false true n false true e s f = inl refl
    by_tests false true n false false e s f = inr (inl (refl, inl refl))
    by_tests false false true false due e s f = let h = s refl refl in cc
    by_tests false false false false true e s f = let h = f refl refl in cc
    by_tests false false false false false e s f = inl refl

holding_ends : (plan : RunPlan) (assigned : Assignment) (state : State) → IsPlan plan → Holds plan assigned state → IsNoMilder (status state) (due_status plan assigned)
holding_ends plan assigned state ok holds = by_script (list_any fails_told state.scripts) refl
  where
    by_pending : list_any fails_told state.scripts ≡ false → (left : Bool) → ltb (length state.scripts) state.planned_scripts ≡ left → IsNoMilder (status state) (due_status plan assigned)
    by_pending none true e = pending_ends plan assigned state ok holds.keeps none e
    by_pending none false e =
        let within = holds.keeps.within in
        tests_end plan assigned state holds none (grind (arith, nat_tests))

    by_script : (some : Bool) → list_any fails_told state.scripts ≡ some → IsNoMilder (status state) (due_status plan assigned)
    by_script true e = inl (script_status state e ∙ sym (script_due plan assigned state ok holds.keeps e))
    by_script false e = by_pending e (ltb (length state.scripts) state.planned_scripts) refl

pub ends_no_milder : EndsNoMilder
ends_no_milder plan assigned run last ok happens agrees =
    holding_ends plan assigned last ok (run_holds plan assigned (initial plan) run last (holds_initial plan assigned ok) happens agrees)

pub agrees_where_cut : AgreesWhereCut
agrees_where_cut assigned state [] more agrees = tt
agrees_where_cut assigned state (event ∷ before) more agrees = (agrees.0, λ mid taken. agrees_where_cut assigned mid before more (agrees.1 mid taken))

-- 4 is comparable with itself alone
four_alone : (now due : ℕ) → IsNoMilder now due → (now ≡ 4) ↔ (due ≡ 4)
four_alone now due (inl same) = (λ e. sym same ∙ e, λ e. same ∙ e)
four_alone now due (inr (inl (zero_due, inl hundred))) = (λ e. absurd (omega arith), λ e. absurd (omega arith))
four_alone now due (inr (inl (zero_due, inr more))) = (λ e. absurd (omega arith), λ e. absurd (omega arith))
four_alone now due (inr (inr (hundred_due, more))) = (λ e. absurd (omega arith), λ e. absurd (omega arith))

pub has_four_exactly_where_due : HasFourExactlyWhereDue
has_four_exactly_where_due plan assigned run last ok happens agrees = four_alone (status last) (due_status plan assigned) (ends_no_milder plan assigned run last ok happens agrees)

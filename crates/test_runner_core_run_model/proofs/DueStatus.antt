-- The status of a run, and that it is the due one.
use Rattle.std.proofs.Common.{◌≡◌, ℕ, ◌≤◌, Bool, true, false, cond, ltb, eqb, not, ◌||◌, ◌&&◌, List, [], ◌∷◌, length, Option, Some, None, refl, sym, ap, ◌∙◌, subst, arith, count_by}
use Rattle.std.specs.Prelude.{is_some}
use Rattle.std.specs.List.{list_any, list_all}
use Rattle.std.specs.Option.{option_map_or}
use Rattle.std.proofs.lemmas.List.{length-map}
use Rattle.std.proofs.lemmas.Bool.Decides.{nat_tests}
use Rattle.nextest_config_elements_choices.specs.declared.timeouts.LeakTimeoutResult.TheVariants as leak_judged
use Rattle.nextest_config_elements_choices.specs.declared.timeouts.SlowTimeoutResult.TheVariants as timeout_judged
use Rattle.nextest_run_events_results.specs.declared.cancel_reason.CancelReason.{CancelReason}
use Rattle.nextest_run_events_results.specs.declared.cancel_reason.CancelReason.TheVariants as why
use Rattle.nextest_run_events_results.specs.declared.result.ExecutionResultDescription.{ExecutionResultDescription}
use Rattle.nextest_run_events_results.specs.declared.result.ExecutionResultDescription.TheVariants as ended
use Rattle.nextest_run_events_results.specs.Result.{is_success}
use Rattle.nextest_run_events_counters.specs.Rows.{Finished, fails_script, script_failed, script_exec_failed, script_timed_out, fails_test, is_failed, exec_failed, failed_timed_out}
use Rattle.nextest_run_events_counters.specs.Summary.{failure_at, at_tests, is_own, failed_count, failed_setup_script_count}
use Rattle.nextest_run_events_counters.specs.declared.run_stats.RunStats.{RunStats}
use Rattle.nextest_run_events_counters.specs.declared.summary.FinalRunStats.TheVariants as summed
use Rattle.nextest_run_events_counters.specs.declared.summary.RunStatsFailureKind.{RunStatsFailureKind}
use Rattle.nextest_run_events_counters.specs.declared.summary.RunStatsFailureKind.TheVariants as at
use Rattle.nextest_run_events_results.specs.declared.record.Record.{Record}
use Rattle.test_runner_core_run_model.specs.RunPlan.{RunPlan, IsPlan}
use Rattle.test_runner_core_run_model.specs.declared.run_test.RunTest.{RunTest}
use Rattle.test_runner_core_run_model.specs.Assignment.{Assignment, some_script, some_test_fails, due_status}
use Rattle.test_runner_core_run_model.specs.State.{TestState, State, initial, counts, is_finished, last_record, finished_as}
use Rattle.test_runner_core_run_model.specs.Counters.{counters, status, status_of, status_at}
use Rattle.test_runner_core_run_model.specs.Runs.{is_complete}
use Rattle.test_runner_core_run_model.specs.Laws.{EndsWithDueStatus}
use Rattle.test_runner_core_run_model.proofs.Counting.{three_count_some, counts_all}
use Rattle.test_runner_core_run_model.proofs.Scripts.{any_first, some_script-more}
use Rattle.test_runner_core_run_model.proofs.TestStates.{plan_of, finished_is_due}
use Rattle.test_runner_core_run_model.proofs.Keeping.{Keeps}
use Rattle.test_runner_core_run_model.proofs.Tracking.{Tracks, Standing, Going, Failing, stops, tracks_initial, run_tracks}

-- tests that answer alike find alike
any_same : {X : Type 0} (p q : X → Bool) (xs : List X) → ((x : X) → p x ≡ q x) → list_any p xs ≡ list_any q xs
any_same p q [] same = refl
any_same p q (x ∷ xs) same = let first = same x in let more = any_same p q xs same in cc

any_implies : {X : Type 0} (p q : X → Bool) (xs : List X) → ((x : X) → p x ≡ true → q x ≡ true) → list_any p xs ≡ true → list_any q xs ≡ true
any_implies p q [] implies h = h
any_implies p q (x ∷ xs) implies h = by_first (p x) (q x) (list_any p xs) (list_any q xs) h (implies x) (any_implies p q xs implies)
  where
    by_first : (a b more then_more : Bool) → (a || more) ≡ true → (a ≡ true → b ≡ true) → (more ≡ true → then_more ≡ true) → (b || then_more) ≡ true
    by_first true b more then_more h' first go = ap (λ (x : Bool). x || then_more) (first refl)
    by_first false true more then_more h' first go = refl
    by_first false false more then_more h' first go = go h'

-- a script that stops the run counts as failing
stop_fails : (result : ExecutionResultDescription) → not (is_success result) ≡ true → fails_script result ≡ true
stop_fails ended.Pass h = cc
stop_fails (ended.Leak leak_judged.Pass) h = cc
stop_fails (ended.Leak leak_judged.Fail) h = refl
stop_fails (ended.Fail failure leaked) h = refl
stop_fails ended.ExecFail h = refl
stop_fails (ended.Timeout timeout_judged.Pass) h = cc
stop_fails (ended.Timeout timeout_judged.Fail) h = refl

-- to count in one of three rows is to count in the row of all three
counts_three : (p q r : Finished → Bool) (test : TestState) → (counts p test || counts q test || counts r test) ≡ counts (λ t. p t || q t || r t) test
counts_three p q r test = by_finished (is_finished test) (last_record test.records)
  where
    by_finished : (over : Bool) (last : Option Record)
        → ((over && option_map_or (λ ending. p (finished_as test ending)) last false) || (over && option_map_or (λ ending. q (finished_as test ending)) last false)
        || (over && option_map_or (λ ending. r (finished_as test ending)) last false))
        ≡ (over && option_map_or (λ ending. p (finished_as test ending) || q (finished_as test ending) || r (finished_as test ending)) last false)
    by_finished true None = refl
    by_finished true (Some ending) = refl
    by_finished false last = refl

abbrev pub fails_told : Record → Bool
fails_told ending = fails_script ending.result

-- the status by its five tests
abbrev pub status_by : Bool → Bool → Bool → Bool → Bool → ℕ
status_by script pending test unfinished nothing = cond script 105 (cond pending 105 (cond test 100 (cond unfinished 100 (cond nothing 4 0))))

pub status_is : (state : State)
    → status state ≡ status_by (list_any fails_told state.scripts) (ltb (length state.scripts) state.planned_scripts) (list_any (counts fails_test) state.tests)
    (ltb (count_by is_finished state.tests) (length state.tests)) (eqb (count_by is_finished state.tests) 0)
status_is state =
    by_tests (ltb 0 (failed_setup_script_count stats)) (ltb stats.setup_scripts_finished_count stats.setup_scripts_initial_count) (ltb 0 (failed_count stats))
    (ltb stats.finished_count stats.initial_run_count) (eqb stats.finished_count 0)
    ∙ ap (λ (b : Bool). status_by b (ltb (length state.scripts) state.planned_scripts) (ltb 0 (failed_count stats)) (ltb (count_by is_finished state.tests) (length state.tests)) (eqb (count_by is_finished state.tests) 0)) scripts
    ∙ ap (λ (b : Bool). status_by (list_any fails_told state.scripts) (ltb (length state.scripts) state.planned_scripts) b (ltb (count_by is_finished state.tests) (length state.tests)) (eqb (count_by is_finished state.tests) 0)) tests
  where
    stats : RunStats
    stats = counters state

    scripts : ltb 0 (failed_setup_script_count (counters state)) ≡ list_any fails_told state.scripts
    scripts = three_count_some (λ ending. script_failed ending.result) (λ ending. script_exec_failed ending.result) (λ ending. script_timed_out ending.result) state.scripts

    tests : ltb 0 (failed_count (counters state)) ≡ list_any (counts fails_test) state.tests
    tests =
        three_count_some (counts is_failed) (counts exec_failed) (counts failed_timed_out) state.tests
        ∙ any_same (λ t. counts is_failed t || counts exec_failed t || counts failed_timed_out t) (counts fails_test) state.tests (counts_three is_failed exec_failed failed_timed_out)

    failure : (kind : RunStatsFailureKind) (own : Bool) → status_of (cond own (summed.Failed kind) (summed.Cancelled state.reason kind)) ≡ status_at kind
    failure kind true = refl
    failure kind false = refl

    by_tests : (script pending test unfinished nothing : Bool)
        → status_of (cond script (failure_at (counters state) at.SetupScript) (cond pending (summed.Cancelled state.reason at.SetupScript)
        (cond test (failure_at (counters state) (at_tests (counters state))) (cond unfinished (summed.Cancelled state.reason (at_tests (counters state))) (cond nothing summed.NoTestsRun summed.Success)))))
        ≡ status_by script pending test unfinished nothing
    by_tests true pending test unfinished nothing = failure at.SetupScript (is_own state.reason)
    by_tests false true test unfinished nothing = refl
    by_tests false false true unfinished nothing = failure (at_tests (counters state)) (is_own state.reason)
    by_tests false false false true nothing = refl
    by_tests false false false false true = refl
    by_tests false false false false false = refl

-- the due status by its three tests
abbrev pub due_by : Bool → Bool → Bool → ℕ
due_by empty script test = cond empty 4 (cond script 105 (cond test 100 0))

not_empty : (tests : List RunTest) (attempt : ℕ → ℕ → Record) → some_test_fails tests attempt ≡ true → eqb (length tests) 0 ≡ false
not_empty [] attempt h = cc
not_empty (test ∷ tests) attempt h = grind (arith, nat_tests)

pub is_empty : {X : Type 0} (xs : List X) → eqb (length xs) 0 ≡ true → xs ≡ []
is_empty [] h = refl
is_empty (x ∷ xs) h = absurd (grind (arith, nat_tests))

-- where all scripts ended, those of the run are those of the assignment
pub ended_scripts : (plan : RunPlan) (assigned : Assignment) (state : State) → Keeps plan assigned state → length state.scripts ≡ state.planned_scripts
    → list_any fails_told state.scripts ≡ some_script fails_told assigned.script plan.scripts
ended_scripts plan assigned state keeps over =
    ap (list_any fails_told) keeps.scripts ∙ any_first fails_told assigned.script (length state.scripts)
    ∙ ap (some_script fails_told assigned.script) (over ∙ keeps.planned)

-- a script that counts as failing makes 105 due
pub script_due : (plan : RunPlan) (assigned : Assignment) (state : State) → IsPlan plan → Keeps plan assigned state → list_any fails_told state.scripts ≡ true
    → due_status plan assigned ≡ 105
script_due plan assigned state ok keeps some =
    let here : some_script fails_told assigned.script (length state.scripts) ≡ true =
    sym (ap (list_any fails_told) keeps.scripts ∙ any_first fails_told assigned.script (length state.scripts)) ∙ some in
    let few : length state.scripts ≤ plan.scripts = subst (λ (n : ℕ). length state.scripts ≤ n) keeps.planned keeps.within in
    let there = some_script-more fails_told assigned.script (length state.scripts) plan.scripts few here in
    by_empty (eqb (length plan.tests) 0) refl there
  where
    by_empty : (empty : Bool) → eqb (length plan.tests) 0 ≡ empty → some_script fails_told assigned.script plan.scripts ≡ true → due_status plan assigned ≡ 105
    by_empty true e there = let none : some_script fails_told assigned.script 0 ≡ true = subst (λ (n : ℕ). some_script fails_told assigned.script n ≡ true) (ok.no_lone_script (is_empty plan.tests e)) there in cc
    by_empty false e there =
        ap (λ (b : Bool). due_by b (some_script fails_told assigned.script plan.scripts) (some_test_fails plan.tests assigned.attempt)) e
        ∙ ap (λ (b : Bool). due_by false b (some_test_fails plan.tests assigned.attempt)) there

-- a run with a failing script has status 105, wherever it is
pub script_status : (state : State) → list_any fails_told state.scripts ≡ true → status state ≡ 105
script_status state some =
    status_is state
    ∙ ap (λ (b : Bool). status_by b (ltb (length state.scripts) state.planned_scripts) (list_any (counts fails_test) state.tests)
    (ltb (count_by is_finished state.tests) (length state.tests)) (eqb (count_by is_finished state.tests) 0)) some

-- where all scripts ended well, the status goes by the tests
pub tests_status : (state : State) → list_any fails_told state.scripts ≡ false → length state.scripts ≡ state.planned_scripts
    → status state ≡ status_by false false (list_any (counts fails_test) state.tests) (ltb (count_by is_finished state.tests) (length state.tests)) (eqb (count_by is_finished state.tests) 0)
tests_status state none over =
    let pending : ltb (length state.scripts) state.planned_scripts ≡ false = grind (arith, nat_tests) in
    status_is state
    ∙ ap (λ (b : Bool). status_by b (ltb (length state.scripts) state.planned_scripts) (list_any (counts fails_test) state.tests)
    (ltb (count_by is_finished state.tests) (length state.tests)) (eqb (count_by is_finished state.tests) 0)) none
    ∙ ap (λ (b : Bool). status_by false b (list_any (counts fails_test) state.tests)
    (ltb (count_by is_finished state.tests) (length state.tests)) (eqb (count_by is_finished state.tests) 0)) pending

pub due_of_tests : (plan : RunPlan) (assigned : Assignment) → some_script fails_told assigned.script plan.scripts ≡ false
    → due_status plan assigned ≡ due_by (eqb (length plan.tests) 0) false (some_test_fails plan.tests assigned.attempt)
due_of_tests plan assigned none = ap (λ (b : Bool). due_by (eqb (length plan.tests) 0) b (some_test_fails plan.tests assigned.attempt)) none

-- a run that the limit stopped
failing_ends : (plan : RunPlan) (assigned : Assignment) (state : State) → IsPlan plan → Tracks plan assigned state → Failing plan assigned state → status state ≡ due_status plan assigned
failing_ends plan assigned state ok tracks h = by_script (list_any fails_told state.scripts) refl
  where
    by_script : (some : Bool) → list_any fails_told state.scripts ≡ some → status state ≡ due_status plan assigned
    by_script true e = script_status state e ∙ sym (script_due plan assigned state ok tracks.keeps e)
    by_script false e =
        tests_status state e h.ended
        ∙ ap (λ (b : Bool). status_by false false b (ltb (count_by is_finished state.tests) (length state.tests)) (eqb (count_by is_finished state.tests) 0)) h.failed
        ∙ sym (due_of_tests plan assigned (sym (ended_scripts plan assigned state tracks.keeps h.ended) ∙ e)
        ∙ ap (λ (b : Bool). due_by b false (some_test_fails plan.tests assigned.attempt)) (not_empty plan.tests assigned.attempt h.due)
        ∙ ap (due_by false false) h.due)

-- a run that nothing stopped
going_ends : (plan : RunPlan) (assigned : Assignment) (state : State) → IsPlan plan → Tracks plan assigned state → Going assigned state
    → length state.scripts ≡ state.planned_scripts → list_all is_finished state.tests ≡ true → status state ≡ due_status plan assigned
going_ends plan assigned state ok tracks now over all = by_script (list_any fails_told state.scripts) refl
  where
    count : count_by is_finished state.tests ≡ length state.tests
    count = counts_all is_finished state.tests all

    number : length state.tests ≡ length plan.tests
    number = sym (length-map state.tests plan_of) ∙ ap length tracks.keeps.plans

    same : list_any (counts fails_test) state.tests ≡ some_test_fails plan.tests assigned.attempt
    same = finished_is_due state.tests assigned.attempt now.fit all ∙ ap (λ (ps : List RunTest). some_test_fails ps assigned.attempt) tracks.keeps.plans

    by_test : (some : Bool) → some_test_fails plan.tests assigned.attempt ≡ some
        → status_by false false (list_any (counts fails_test) state.tests) (ltb (count_by is_finished state.tests) (length state.tests)) (eqb (count_by is_finished state.tests) 0)
        ≡ due_by (eqb (length plan.tests) 0) false (some_test_fails plan.tests assigned.attempt)
    by_test true e =
        ap (λ (b : Bool). status_by false false b (ltb (count_by is_finished state.tests) (length state.tests)) (eqb (count_by is_finished state.tests) 0)) (same ∙ e)
        ∙ sym (ap (λ (b : Bool). due_by b false (some_test_fails plan.tests assigned.attempt)) (not_empty plan.tests assigned.attempt e) ∙ ap (due_by false false) e)
    by_test false e =
        let finished : ltb (count_by is_finished state.tests) (length state.tests) ≡ false = let c = count in grind (arith, nat_tests) in
        ap (λ (b : Bool). status_by false false b (ltb (count_by is_finished state.tests) (length state.tests)) (eqb (count_by is_finished state.tests) 0)) (same ∙ e)
        ∙ ap (λ (b : Bool). status_by false false false b (eqb (count_by is_finished state.tests) 0)) finished
        ∙ ap (λ (n : ℕ). cond (eqb n 0) 4 0) (count ∙ number)
        ∙ sym (ap (due_by (eqb (length plan.tests) 0) false) e)

    by_script : (some : Bool) → list_any fails_told state.scripts ≡ some → status state ≡ due_status plan assigned
    by_script true e = script_status state e ∙ sym (script_due plan assigned state ok tracks.keeps e)
    by_script false e =
        tests_status state e over
        ∙ by_test (some_test_fails plan.tests assigned.attempt) refl
        ∙ sym (due_of_tests plan assigned (sym (ended_scripts plan assigned state tracks.keeps over) ∙ e))

-- what complete says where no reason stands
pub complete_going : (state : State) → state.reason ≡ None → is_complete state ≡ true → (length state.scripts ≡ state.planned_scripts) × (list_all is_finished state.tests ≡ true)
complete_going state going complete =
    by_tests (eqb (length state.scripts) state.planned_scripts) (list_all is_finished state.tests) (is_some state.reason) _ refl refl (ap is_some going) complete
  where
    by_tests : (scripts tests some rest : Bool) → eqb (length state.scripts) state.planned_scripts ≡ scripts → list_all is_finished state.tests ≡ tests → some ≡ false
        → ((scripts && tests) || (some && rest)) ≡ true → (length state.scripts ≡ state.planned_scripts) × (list_all is_finished state.tests ≡ true)
    by_tests true true some rest s t n h = (grind (arith, nat_tests), t)
    by_tests true false false rest s t n h = cc
    by_tests true false true rest s t n h = cc
    by_tests false tests false rest s t n h = cc
    by_tests false tests true rest s t n h = cc

tracked_ends : (plan : RunPlan) (assigned : Assignment) (state : State) → IsPlan plan → Tracks plan assigned state → is_complete state ≡ true → status state ≡ due_status plan assigned
tracked_ends plan assigned state ok tracks complete = by_reason state.reason refl
  where
    was : (reason : Option CancelReason) → state.reason ≡ reason → Standing plan assigned state reason
    was reason e = subst (Standing plan assigned state) e tracks.standing

    by_reason : (reason : Option CancelReason) → state.reason ≡ reason → status state ≡ due_status plan assigned
    by_reason None e = let over = complete_going state e complete in going_ends plan assigned state ok tracks (was None e) over.0 over.1
    by_reason (Some why.SetupScriptFailure) e =
        let some = any_implies stops fails_told state.scripts (λ ending. stop_fails ending.result) (was (Some why.SetupScriptFailure) e) in
        script_status state some ∙ sym (script_due plan assigned state ok tracks.keeps some)
    by_reason (Some why.TestFailure) e = failing_ends plan assigned state ok tracks (was (Some why.TestFailure) e)
    by_reason (Some why.TestFailureImmediate) e = failing_ends plan assigned state ok tracks (was (Some why.TestFailureImmediate) e)
    by_reason (Some why.ReportError) e = absurd (was (Some why.ReportError) e)
    by_reason (Some why.GlobalTimeout) e = absurd (was (Some why.GlobalTimeout) e)
    by_reason (Some why.Signal) e = absurd (was (Some why.Signal) e)
    by_reason (Some why.Interrupt) e = absurd (was (Some why.Interrupt) e)
    by_reason (Some why.SecondSignal) e = absurd (was (Some why.SecondSignal) e)

pub ends_with_due_status : EndsWithDueStatus
ends_with_due_status plan assigned run last ok happens agrees plain complete =
    tracked_ends plan assigned last ok (run_tracks plan assigned (initial plan) run last ok.limit (tracks_initial plan assigned ok) happens agrees plain) complete

-- Tests before one of them starts, and from then on.
use Rattle.std.proofs.Common.{◌≡◌, ◌<◌, ◌+◌, ℕ, zero, suc, List, [], ◌∷◌, length, map, Some, refl, sym, ap, ◌∙◌, subst, arith}
use Rattle.std.specs.Prelude.{slice_get, slice_set}
use Rattle.std.specs.Option.{option_map}
use Rattle.std.proofs.lemmas.List.{length-set}
use Rattle.nextest_run_events_counters.specs.Rows as rows
use Rattle.nextest_run_events_counters.specs.declared.run_stats.RunStats.{RunStats}
use Rattle.nextest_run_events_results.specs.declared.cancel_reason.CancelReason.{CancelReason}
use Rattle.nextest_run_events_results.specs.declared.record.Record.{Record}
use Rattle.test_runner_core_run_model.specs.declared.run_test.RunTest.{RunTest}
use Rattle.test_runner_core_run_model.specs.State.{TestState, waiting, counts, is_finished}
use Rattle.test_runner_core_run_model.specs.Step.{finished_by}
use Rattle.test_runner_core_run_state.specs.Counted.{CountsNoTest, with_finished, with_tests_counted}
use Rattle.test_runner_core_run_state.specs.Parts.{IsRunningAt, states_of}
use Rattle.test_runner_core_run_state.specs.Records.{tests_with}
use Rattle.test_runner_core_run_state.proofs.Tallies.{none_waits, none_weighs, unfinished_adds}

pub begun : (planned : List RunTest) (tests : List TestState) → 0 < length tests → states_of planned tests ≡ tests
begun planned [] some = absurd (omega (arith, some))
begun planned (test ∷ tests) some = refl

pub unbegun : (planned : List RunTest) (tests : List TestState) → length tests ≡ 0 → states_of planned tests ≡ map waiting planned
unbegun planned [] none = refl
unbegun planned (test ∷ tests) none = absurd (omega (arith, none))

-- tests that are made of what is planned
pub made : (planned : List RunTest) → states_of [] (map waiting planned) ≡ map waiting planned
made [] = refl
made (plan ∷ planned) = refl

-- a test that waits is as planned
pub waits_at : (planned : List RunTest) (place : ℕ) → slice_get (map waiting planned) place ≡ option_map waiting (slice_get planned place)
waits_at [] place = refl
waits_at (plan ∷ planned) zero = refl
waits_at (plan ∷ planned) (suc place) = waits_at planned place

-- and as nothing else
waits : (planned : List RunTest) (place : ℕ) (test : TestState) → slice_get (map waiting planned) place ≡ Some test → (plan : RunTest) × (test ≡ waiting plan)
waits [] place test found = absurd (cc)
waits (plan ∷ planned) zero test found = (plan, (let is : waiting plan ≡ test = cc in sym is))
waits (plan ∷ planned) (suc place) test found = waits planned place test found

-- where one runs, they are made
pub running_there : (planned : List RunTest) (tests : List TestState) (place : ℕ) → IsRunningAt (states_of planned tests) place → IsRunningAt tests place
running_there planned [] place it = absurd (let as_planned = ap (λ test. test.mark) (waits planned place it.test it.found).1 in let running = it.runs in cc)
running_there planned (test ∷ tests) place it = it

pub some_there : (tests : List TestState) (place : ℕ) (test : TestState) → slice_get tests place ≡ Some test → 0 < length tests
some_there [] place test found = absurd (cc)
some_there (first ∷ tests) place test found = omega arith

-- ---- tests that wait stay as they are

pub none_finished_by : (reason : CancelReason) (planned : List RunTest) → map (finished_by reason) (map waiting planned) ≡ map waiting planned
none_finished_by reason [] = refl
none_finished_by reason (plan ∷ planned) = ap (λ rest. waiting plan ∷ rest) (none_finished_by reason planned)

pub none_forgotten : (kept : ℕ → Record → Record) (planned : List RunTest) → tests_with kept (map waiting planned) ≡ map waiting planned
none_forgotten kept [] = refl
none_forgotten kept (plan ∷ planned) = ap (λ rest. waiting plan ∷ rest) (none_forgotten (λ place. kept (suc place)) planned)

-- and don't count
pub none_counted : (planned : List RunTest) (stats : RunStats) → with_tests_counted (map waiting planned) stats ≡ with_tests_counted [] stats
none_counted planned stats =
    let e0 = none_waits is_finished (λ plan. refl) planned in
    let e1 = none_waits (counts rows.is_passed) (λ plan. refl) planned in
    let e2 = none_waits (counts rows.passed_slow) (λ plan. refl) planned in
    let e3 = none_waits (counts rows.passed_timed_out) (λ plan. refl) planned in
    let e4 = none_waits (counts rows.flaky) (λ plan. refl) planned in
    let e5 = none_waits (counts rows.is_failed) (λ plan. refl) planned in
    let e6 = none_waits (counts rows.failed_slow) (λ plan. refl) planned in
    let e7 = none_waits (counts rows.failed_timed_out) (λ plan. refl) planned in
    let e8 = none_waits (counts rows.leaky) (λ plan. refl) planned in
    let e9 = none_waits (counts rows.leaky_failed) (λ plan. refl) planned in
    let e10 = none_waits (counts rows.exec_failed) (λ plan. refl) planned in
    let e11 = none_weighs planned in
    rw (e0, e1, e2, e3, e4, e5, e6, e7, e8, e9, e10, e11) refl

-- ---- the same of what stands for the tests

pub counted_either : (planned : List RunTest) (tests : List TestState) (stats : RunStats) → with_tests_counted tests stats ≡ with_tests_counted (states_of planned tests) stats
counted_either planned [] stats = sym (none_counted planned stats)
counted_either planned (test ∷ tests) stats = refl

pub finished_either : (reason : CancelReason) (planned : List RunTest) (tests : List TestState) → states_of planned (map (finished_by reason) tests) ≡ map (finished_by reason) (states_of planned tests)
finished_either reason planned [] = sym (none_finished_by reason planned)
finished_either reason planned (test ∷ tests) = refl

pub forgotten_either : (kept : ℕ → Record → Record) (planned : List RunTest) (tests : List TestState) → states_of planned (tests_with kept tests) ≡ tests_with kept (states_of planned tests)
forgotten_either kept planned [] = sym (none_forgotten kept planned)
forgotten_either kept planned (test ∷ tests) = refl

-- a test that changes
pub set_either : (planned : List RunTest) (tests after now : List TestState) (place : ℕ) (changed : TestState) → states_of planned tests ≡ now → 0 < length tests → after ≡ slice_set tests place changed
    → states_of planned after ≡ slice_set now place changed
set_either planned tests after now place changed is some sets =
    let still : 0 < length after = omega (arith, some, ap length sets, length-set tests place changed) in
    begun planned after still ∙ sets ∙ ap (λ them. slice_set them place changed) (sym (begun planned tests some) ∙ is)

-- no test counts nothing
pub none_yet : (stats : RunStats) → CountsNoTest stats → with_tests_counted [] stats ≡ stats
none_yet stats none =
    let all : with_tests_counted [] stats ≡ record stats {
      finished_count = stats.finished_count;
      passed = stats.passed;
      passed_slow = stats.passed_slow;
      passed_timed_out = stats.passed_timed_out;
      flaky = stats.flaky;
      failed = stats.failed;
      failed_slow = stats.failed_slow;
      failed_timed_out = stats.failed_timed_out;
      leaky = stats.leaky;
      leaky_failed = stats.leaky_failed;
      exec_failed = stats.exec_failed;
      failed_weight = stats.failed_weight;
    } =
    rw (none.finished, none.passed, none.passed_slow, none.passed_timed_out, none.flaky, none.failed, none.failed_slow, none.failed_timed_out, none.leaky, none.leaky_failed, none.exec_failed, none.failed_weight) refl in
    all

-- nor does one that waits
pub waiting_uncounted : (planned : List RunTest) (place : ℕ) (test : TestState) (stats : RunStats) → slice_get (map waiting planned) place ≡ Some test → stats ≡ with_finished test stats
waiting_uncounted planned place test stats found =
    let it = waits planned place test found in
    subst (λ test. stats ≡ with_finished test stats) (sym it.1) (sym (unfinished_adds (waiting it.0) stats refl))

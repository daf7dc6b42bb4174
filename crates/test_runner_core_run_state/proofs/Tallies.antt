-- The counters and the number of running tests, from one state of the tests to the next.
use Rattle.std.proofs.Common.{suc, ◌≡◌, ℕ, ◌+◌, ◌^◌, ◌≤◌, ◌<◌, ◌-◌, zero, Bool, true, false, cond, ◌&&◌, List, [], ◌∷◌, length, Option, Some, map, refl, sym, ap, ◌∙◌, arith, count_by, sum_by}
use Rattle.std.specs.Prelude.{slice_get, slice_set}
use Rattle.std.specs.Int.{from_bool}
use Rattle.std.specs.Option.{option_map_or}
use Rattle.std.proofs.lemmas.List.Sums.{sum_by-cons, count_by-le-length}
use Rattle.nextest_config_elements_choices.specs.FailWeight.{capped}
use Rattle.nextest_config_elements_choices.specs.declared.max_fail.MaxFail.TheVariants as limits
use Rattle.nextest_run_events_counters.specs.Counting.{CanCountTest, with_test}
use Rattle.nextest_run_events_counters.specs.Rows as rows
use Rattle.nextest_run_events_counters.specs.Rows.{Finished, fails_test}
use Rattle.nextest_run_events_counters.specs.declared.run_stats.RunStats.{RunStats}
use Rattle.nextest_run_events_results.specs.declared.cancel_reason.CancelReason.{CancelReason}
use Rattle.nextest_run_events_results.specs.declared.record.Record.{Record}
use Rattle.test_runner_core_run_model.specs.declared.run_test.RunTest.{RunTest}
use Rattle.test_runner_core_run_model.specs.Step.{after_attempt, finishes}
use Rattle.test_runner_core_run_model.specs.declared.mark.Mark.TheVariants as marks
use Rattle.test_runner_core_run_model.specs.State.{TestState, State, waiting, counts, failed_weight, is_finished, is_running, is_running_mark, last_record, finished_as}
use Rattle.test_runner_core_run_state.specs.Counted.{with_finished, with_tests_counted}
use Rattle.test_runner_core_run_state.proofs.Counts.{counted_set, summed_set}

-- some state with a reason
abbrev pub with_reason : Option CancelReason → State
with_reason reason = record { planned_scripts = 0; scripts = []; tests = []; limit = limits.All; skipped = 0; reason = reason }

bool_number : (b : Bool) → b ≡ false → ◌≡◌ {A = ℕ} (cond b 1 0) 0
bool_number b e = ap (λ (x : Bool). cond x 1 0) e

one_number : (b : Bool) → b ≡ true → ◌≡◌ {A = ℕ} (cond b 1 0) 1
one_number b e = ap (λ (x : Bool). cond x 1 0) e

number_of : (b c : Bool) → b ≡ c → ◌≡◌ {A = ℕ} (cond b 1 0) (from_bool c)
number_of true true e = refl
number_of true false e = cc
number_of false true e = cc
number_of false false e = refl

-- what waits adds nothing to a sum, where it is nothing there
pub waiting_sum : (of : TestState → ℕ) → ((plan : RunTest) → of (waiting plan) ≡ 0) → (plans : List RunTest) → sum_by of (map waiting plans) ≡ 0
waiting_sum of nothing [] = refl
waiting_sum of nothing (plan ∷ plans) =
    rw (sum_by-cons of (waiting plan) (map waiting plans))
    (let first = nothing plan in let rest = waiting_sum of nothing plans in omega (arith, first, rest))

-- nothing that waits counts
pub none_waits : (p : TestState → Bool) → ((plan : RunTest) → p (waiting plan) ≡ false) → (plans : List RunTest) → count_by p (map waiting plans) ≡ 0
none_waits p unmet = waiting_sum (λ y. cond (p y) 1 0) (λ plan. bool_number (p (waiting plan)) (unmet plan))

-- nor weighs anything
pub none_weighs : (plans : List RunTest) → failed_weight (map waiting plans) ≡ 0
none_weighs = waiting_sum (λ y. cond (counts fails_test y) y.plan.weight 0) (λ plan. refl)

-- a sum that was capped before it grew is the capped sum of all
capped_more : (sum more : ℕ) → capped (capped sum + more) ≡ capped (sum + more)
capped_more sum more = omega arith

-- a sum that grows by a test's weight, where that fails
pub weight_more : (fails : Bool) (weight old new : ℕ) → new ≡ old + cond fails weight 0 → capped new ≡ cond fails (capped (capped old + weight)) (capped old)
weight_more true weight old new grown = ap capped grown ∙ sym (capped_more old weight)
weight_more false weight old new grown = ap capped (grown ∙ omega arith)

-- what isn't finished doesn't count
pub unfinished_counts : (row : Finished → Bool) (test : TestState) → is_finished test ≡ false → counts row test ≡ false
unfinished_counts row test e = ap (λ (b : Bool). b && option_map_or (λ ending. row (finished_as test ending)) (last_record test.records) false) e

-- one row after a write over a test that wasn't finished
row_set : (p : TestState → Bool) (tests : List TestState) (place : ℕ) (old new : TestState) → slice_get tests place ≡ Some old → p old ≡ false
    → count_by p (slice_set tests place new) ≡ count_by p tests + from_bool (p new)
row_set p tests place old new found unmet =
    let change = counted_set p tests place old new found in
    let before = bool_number (p old) unmet in
    let after = number_of (p new) (p new) refl in
    omega (arith, change, before, after)

-- what failed weighs after a write over a test that wasn't finished
weight_set : (tests : List TestState) (place : ℕ) (old new : TestState) → slice_get tests place ≡ Some old → is_finished old ≡ false
    → capped (failed_weight (slice_set tests place new))
    ≡ cond (counts fails_test new) (capped (capped (failed_weight tests) + new.plan.weight)) (capped (failed_weight tests))
weight_set tests place old new found open_still =
    let weighed : TestState → ℕ = λ test. cond (counts fails_test test) test.plan.weight 0 in
    let change = summed_set weighed tests place old new found in
    let before : weighed old ≡ 0 = ap (λ (b : Bool). cond b old.plan.weight 0) (unfinished_counts fails_test old open_still) in
    weight_more (counts fails_test new) new.plan.weight (failed_weight tests) (failed_weight (slice_set tests place new)) (omega (arith, change, before))

-- the counters after a write over a test that wasn't finished
pub counted_after : (tests : List TestState) (place : ℕ) (old new : TestState) (stats : RunStats) → slice_get tests place ≡ Some old → is_finished old ≡ false
    → with_tests_counted (slice_set tests place new) stats ≡ with_finished new (with_tests_counted tests stats)
counted_after tests place old new stats found open_still =
    let e0 = row_set is_finished tests place old new found open_still in
    let e1 = row_set (counts rows.is_passed) tests place old new found (unfinished_counts rows.is_passed old open_still) in
    let e2 = row_set (counts rows.passed_slow) tests place old new found (unfinished_counts rows.passed_slow old open_still) in
    let e3 = row_set (counts rows.passed_timed_out) tests place old new found (unfinished_counts rows.passed_timed_out old open_still) in
    let e4 = row_set (counts rows.flaky) tests place old new found (unfinished_counts rows.flaky old open_still) in
    let e5 = row_set (counts rows.is_failed) tests place old new found (unfinished_counts rows.is_failed old open_still) in
    let e6 = row_set (counts rows.failed_slow) tests place old new found (unfinished_counts rows.failed_slow old open_still) in
    let e7 = row_set (counts rows.failed_timed_out) tests place old new found (unfinished_counts rows.failed_timed_out old open_still) in
    let e8 = row_set (counts rows.leaky) tests place old new found (unfinished_counts rows.leaky old open_still) in
    let e9 = row_set (counts rows.leaky_failed) tests place old new found (unfinished_counts rows.leaky_failed old open_still) in
    let e10 = row_set (counts rows.exec_failed) tests place old new found (unfinished_counts rows.exec_failed old open_still) in
    let e11 = weight_set tests place old new found open_still in
    cc

-- a test that isn't finished adds nothing
pub unfinished_adds : (test : TestState) (stats : RunStats) → is_finished test ≡ false → with_finished test stats ≡ stats
unfinished_adds test stats open_still =
    let e0 = adds_none (is_finished test) stats.finished_count open_still in
    let e1 = adds_none (counts rows.is_passed test) stats.passed (unfinished_counts rows.is_passed test open_still) in
    let e2 = adds_none (counts rows.passed_slow test) stats.passed_slow (unfinished_counts rows.passed_slow test open_still) in
    let e3 = adds_none (counts rows.passed_timed_out test) stats.passed_timed_out (unfinished_counts rows.passed_timed_out test open_still) in
    let e4 = adds_none (counts rows.flaky test) stats.flaky (unfinished_counts rows.flaky test open_still) in
    let e5 = adds_none (counts rows.is_failed test) stats.failed (unfinished_counts rows.is_failed test open_still) in
    let e6 = adds_none (counts rows.failed_slow test) stats.failed_slow (unfinished_counts rows.failed_slow test open_still) in
    let e7 = adds_none (counts rows.failed_timed_out test) stats.failed_timed_out (unfinished_counts rows.failed_timed_out test open_still) in
    let e8 = adds_none (counts rows.leaky test) stats.leaky (unfinished_counts rows.leaky test open_still) in
    let e9 = adds_none (counts rows.leaky_failed test) stats.leaky_failed (unfinished_counts rows.leaky_failed test open_still) in
    let e10 = adds_none (counts rows.exec_failed test) stats.exec_failed (unfinished_counts rows.exec_failed test open_still) in
    let e11 = unfinished_counts fails_test test open_still in
    rw (e0, e1, e2, e3, e4, e5, e6, e7, e8, e9, e10, e11) refl
  where
    adds_none : (b : Bool) (n : ℕ) → b ≡ false → n + from_bool b ≡ n
    adds_none b n e = let zero_more : from_bool b ≡ 0 = ap from_bool e in omega (arith, zero_more)

-- a finished test with a last record adds what it counts as
pub finished_adds : (test : TestState) (ending : Record) (stats : RunStats) → is_finished test ≡ true → last_record test.records ≡ Some ending
    → with_finished test stats ≡ with_test (finished_as test ending) test.plan.weight stats
finished_adds test ending stats over last =
    let e0 : from_bool (is_finished test) ≡ 1 = ap from_bool over in
    let e1 = row_of rows.is_passed in
    let e2 = row_of rows.passed_slow in
    let e3 = row_of rows.passed_timed_out in
    let e4 = row_of rows.flaky in
    let e5 = row_of rows.is_failed in
    let e6 = row_of rows.failed_slow in
    let e7 = row_of rows.failed_timed_out in
    let e8 = row_of rows.leaky in
    let e9 = row_of rows.leaky_failed in
    let e10 = row_of rows.exec_failed in
    let e11 = row_is fails_test in
    cc
  where
    row_is : (row : Finished → Bool) → counts row test ≡ row (finished_as test ending)
    row_is row =
        ap (λ (b : Bool). b && option_map_or (λ ending. row (finished_as test ending)) (last_record test.records) false) over
        ∙ ap (λ (o : Option Record). option_map_or (λ ending. row (finished_as test ending)) o false) last

    row_of : (row : Finished → Bool) → from_bool (counts row test) ≡ from_bool (row (finished_as test ending))
    row_of row = ap from_bool (row_is row)

-- tests that are fewer than numbers of the type leave room to count one more
pub fits_more : (tests : List TestState) (stats : RunStats) → length tests + 1 < 2 ^ 64 → CanCountTest (with_tests_counted tests stats)
fits_more tests stats few =
    record {
      finished = bound is_finished;
      passed = bound (counts rows.is_passed);
      passed_slow = bound (counts rows.passed_slow);
      passed_timed_out = bound (counts rows.passed_timed_out);
      flaky = bound (counts rows.flaky);
      failed = bound (counts rows.is_failed);
      failed_slow = bound (counts rows.failed_slow);
      failed_timed_out = bound (counts rows.failed_timed_out);
      leaky = bound (counts rows.leaky);
      leaky_failed = bound (counts rows.leaky_failed);
      exec_failed = bound (counts rows.exec_failed);
    }
  where
    bound : (p : TestState → Bool) → count_by p tests + 1 < 2 ^ 64
    bound p = let most = count_by-le-length p tests in omega (arith, most, few)

-- how far a test is after an attempt
pub after_idle : (state : State) (test : TestState) (ending : Record) → is_running (after_attempt state test ending) ≡ false
after_idle state test ending = by_test (finishes state test ending)
  where
    by_test : (b : Bool) → is_running_mark (cond b (marks.Finished state.reason) marks.Between) ≡ false
    by_test true = refl
    by_test false = refl

-- where one runs the count of those that run is above 0
pub runs_some : (tests : List TestState) (place : ℕ) (test : TestState) → slice_get tests place ≡ Some test → is_running test ≡ true → 1 ≤ count_by is_running tests
runs_some [] place test found runs = cc
runs_some (first ∷ tests) zero test found runs =
    let e : first ≡ test = cc in
    let one = one_number (is_running first) (ap is_running e ∙ runs) in
    rw (sum_by-cons (λ y. cond (is_running y) 1 0) first tests) (omega (arith, one))
runs_some (first ∷ tests) (suc place) test found runs =
    let rest = runs_some tests place test found runs in
    rw (sum_by-cons (λ y. cond (is_running y) 1 0) first tests) (omega (arith, rest))

-- an attempt starts, and one ends
pub started_running : (tests : List TestState) (place running : ℕ) (old new : TestState) → slice_get tests place ≡ Some old
    → is_running old ≡ false → is_running new ≡ true → running ≡ count_by is_running tests → running + 1 ≡ count_by is_running (slice_set tests place new)
started_running tests place running old new found idle runs count =
    let change = counted_set is_running tests place old new found in
    let before = bool_number (is_running old) idle in
    let after = one_number (is_running new) runs in
    omega (arith, change, before, after, count)

pub ended_running : (tests : List TestState) (place running : ℕ) (old new : TestState) → slice_get tests place ≡ Some old
    → is_running old ≡ true → is_running new ≡ false → running ≡ count_by is_running tests → running - 1 ≡ count_by is_running (slice_set tests place new)
ended_running tests place running old new found runs idle count =
    let change = counted_set is_running tests place old new found in
    let before = one_number (is_running old) runs in
    let after = bool_number (is_running new) idle in
    omega (arith, change, before, after, count)

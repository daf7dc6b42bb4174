-- Where each test weighs 1, weights are numbers.
use Rattle.std.proofs.Common.{◌≡◌, ℕ, suc, ◌+◌, Bool, true, false, cond, ◌&&◌, List, [], ◌∷◌, Option, None, Some, map, refl, sym, ap, subst, ◌∙◌, arith, count_by}
use Rattle.std.specs.Int.{from_bool}
use Rattle.std.specs.Option.{option_map_or}
use Rattle.std.proofs.lemmas.List.Sums.{sum_by-cons}
use Rattle.nextest_config_elements_choices.specs.declared.timeouts.FlakyResult.{FlakyResult}
use Rattle.nextest_config_elements_choices.specs.declared.timeouts.FlakyResult.TheVariants as rule
use Rattle.nextest_config_elements_choices.specs.declared.timeouts.LeakTimeoutResult.TheVariants as leak
use Rattle.nextest_config_elements_choices.specs.declared.timeouts.SlowTimeoutResult.TheVariants as timeout
use Rattle.nextest_run_events_counters.specs.Rows as rows
use Rattle.nextest_run_events_counters.specs.Rows.{Finished, fails_test}
use Rattle.nextest_run_events_counters.specs.Summary.{failed_count}
use Rattle.nextest_run_events_results.specs.declared.result.ExecutionResultDescription.{ExecutionResultDescription}
use Rattle.nextest_run_events_results.specs.declared.result.ExecutionResultDescription.TheVariants as ended
use Rattle.nextest_run_events_results.specs.declared.record.Record.{Record}
use Rattle.test_runner_core_run_model.specs.Assignment.{fails}
use Rattle.test_runner_core_run_model.specs.Counters.{counters}
use Rattle.test_runner_core_run_model.specs.State.{TestState, State, initial, counts, is_finished, last_record, finished_as, failed_weight}
use Rattle.test_runner_core_run_model.specs.FailLimit.{WeighOne}
use Rattle.test_runner_core_run_model.specs.Laws.{WeighsItsNumber, WeighsItsFailures}
use Rattle.test_runner_core_run_model.specs.declared.run_test.RunTest.{RunTest}
use Rattle.test_runner_core_run_model.proofs.OneEnd.{weighed}
use Rattle.test_runner_core_run_model.proofs.TestStates.{plan_of}
use Rattle.test_runner_core_run_model.proofs.WholeRuns.{planned_initial, run_planned}

-- three counts are one where of three tests one at most is passed
sum_three : {X : Type 0} (p q r s : X → Bool) (xs : List X) → ((x : X) → from_bool (p x) + from_bool (q x) + from_bool (r x) ≡ from_bool (s x))
    → count_by p xs + count_by q xs + count_by r xs ≡ count_by s xs
sum_three p q r s [] each = refl
sum_three p q r s (x ∷ xs) each =
    rw (sum_by-cons (λ y. cond (p y) 1 0) x xs, sum_by-cons (λ y. cond (q y) 1 0) x xs, sum_by-cons (λ y. cond (r y) 1 0) x xs, sum_by-cons (λ y. cond (s y) 1 0) x xs)
    (let first = by_tests (p x) (q x) (r x) (s x) (each x) in let rest = sum_three p q r s xs each in omega (arith, first, rest))
  where
    as_number : (b : Bool) → from_bool b ≡ cond b 1 0
    as_number true = refl
    as_number false = refl

    by_tests : (a b c d : Bool) → from_bool a + from_bool b + from_bool c ≡ from_bool d → ◌≡◌ {A = ℕ} (cond a 1 0 + cond b 1 0 + cond c 1 0) (cond d 1 0)
    by_tests a b c d h =
        let i = as_number a in let j = as_number b in let k = as_number c in let l = as_number d in omega (arith, h, i, j, k, l)

test_once : (test : Finished) → from_bool (rows.is_failed test) + from_bool (rows.exec_failed test) + from_bool (rows.failed_timed_out test) ≡ from_bool (fails_test test)
test_once test = by_result test.result test.late test.flaky
  where
    by_result : (result : ExecutionResultDescription) (late : Bool) (flaky : FlakyResult)
        → from_bool (rows.is_failed (record { result = result; slow = test.slow; late = late; flaky = flaky })) + from_bool (rows.exec_failed (record { result = result; slow = test.slow; late = late; flaky = flaky }))
        + from_bool (rows.failed_timed_out (record { result = result; slow = test.slow; late = late; flaky = flaky }))
        ≡ from_bool (fails_test (record { result = result; slow = test.slow; late = late; flaky = flaky }))
    by_result ended.Pass true rule.Pass = refl
    by_result ended.Pass true rule.Fail = refl
    by_result ended.Pass false flaky = refl
    by_result (ended.Leak leak.Pass) true rule.Pass = refl
    by_result (ended.Leak leak.Pass) true rule.Fail = refl
    by_result (ended.Leak leak.Pass) false flaky = refl
    by_result (ended.Leak leak.Fail) late flaky = refl
    by_result (ended.Fail failure leaked) late flaky = refl
    by_result ended.ExecFail late flaky = refl
    by_result (ended.Timeout timeout.Pass) true rule.Pass = refl
    by_result (ended.Timeout timeout.Pass) true rule.Fail = refl
    by_result (ended.Timeout timeout.Pass) false flaky = refl
    by_result (ended.Timeout timeout.Fail) late flaky = refl

counted_as : (test : TestState) → from_bool (counts rows.is_failed test) + from_bool (counts rows.exec_failed test) + from_bool (counts rows.failed_timed_out test) ≡ from_bool (counts fails_test test)
counted_as test = by_finished (is_finished test) (last_record test.records)
  where
    by_finished : (over : Bool) (final : Option Record)
        → from_bool (over && option_map_or (λ ending. rows.is_failed (finished_as test ending)) final false) + from_bool (over && option_map_or (λ ending. rows.exec_failed (finished_as test ending)) final false)
        + from_bool (over && option_map_or (λ ending. rows.failed_timed_out (finished_as test ending)) final false)
        ≡ from_bool (over && option_map_or (λ ending. fails_test (finished_as test ending)) final false)
    by_finished true None = refl
    by_finished true (Some ending) = test_once (finished_as test ending)
    by_finished false final = refl

-- the tests that count as failing are those that failed, couldn't be started or took too long
failed_is : (state : State) → failed_count (counters state) ≡ count_by (counts fails_test) state.tests
failed_is state = sum_three (counts rows.is_failed) (counts rows.exec_failed) (counts rows.failed_timed_out) (counts fails_test) state.tests counted_as

-- tests that weigh 1 weigh as much as their number
weigh_number : (tests : List TestState) → WeighOne (map plan_of tests) → failed_weight tests ≡ count_by (counts fails_test) tests
weigh_number [] one = refl
weigh_number (test ∷ tests) one =
    let here : weighed test ≡ cond (counts fails_test test) 1 0 = ap (λ (n : ℕ). cond (counts fails_test test) n 0) one.0 in
    let more = weigh_number tests one.1 in
    rw (sum_by-cons weighed test tests, sum_by-cons (λ y. cond (counts fails_test y) 1 0) test tests) (omega (arith, here, more))

pub weighs_its_number : WeighsItsNumber
weighs_its_number plan run last one happens =
    let planned = run_planned plan (initial plan) run last (planned_initial plan) happens in
    weigh_number last.tests (subst WeighOne (sym planned.plans) one) ∙ sym (failed_is last)

pub weighs_its_failures : WeighsItsFailures
weighs_its_failures [] attempt one = refl
weighs_its_failures (test ∷ tests) attempt one =
    let here : cond (fails test (attempt 0)) test.weight 0 ≡ cond (fails test (attempt 0)) 1 0 = ap (λ (n : ℕ). cond (fails test (attempt 0)) n 0) one.0 in
    let more = weighs_its_failures tests (λ place. attempt (suc place)) one.1 in
    omega (arith, here, more)

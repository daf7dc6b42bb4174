use Rattle.std.proofs.Common.{◌≡◌, ℕ, ◌+◌, ◌<◌, ◌^◌, Bool, true, false, cond, List, length, get_or, take, refl, sym, ap, subst, ◌∙◌, arith, count_by, sum_by}
use Rattle.std.specs.Int.{from_bool}
use Rattle.std.proofs.lemmas.List.{length-take-le, take_all}
use Rattle.std.proofs.lemmas.List.Sums.{sum_by_more}
use Rattle.nextest_run_events_counters.specs.Counting.{CanCountTest}
use Rattle.nextest_run_events_counters.specs.Rows as rows
use Rattle.nextest_run_events_counters.specs.Rows.{fails_test}
use Rattle.nextest_run_events_counters.specs.declared.run_stats.RunStats.{RunStats}
use Rattle.test_runner_core_run_model.specs.State.{TestState, counts, failed_weight, is_finished}
use Rattle.test_runner_core_run_state.specs.Counted.{with_finished, with_tests_counted}
use Rattle.test_runner_core_run_state.proofs.Begun.{none_yet}
use Rattle.test_runner_core_run_state.proofs.Tallies.{fits_more, weight_more}
use Rattle.test_runner_core_run_state.proofs.test_states.count_each.Goals as goal

-- one more of the tests is counted
one_more : (tests : List TestState) (i : ℕ) (test : TestState) (stats : RunStats) → i < length tests → test ≡ get_or tests i test
    → with_finished test (with_tests_counted (take i tests) stats) ≡ with_tests_counted (take (i + 1) tests) stats
one_more tests i test stats within is =
    let e0 = row is_finished in
    let e1 = row (counts rows.is_passed) in
    let e2 = row (counts rows.passed_slow) in
    let e3 = row (counts rows.passed_timed_out) in
    let e4 = row (counts rows.flaky) in
    let e5 = row (counts rows.is_failed) in
    let e6 = row (counts rows.failed_slow) in
    let e7 = row (counts rows.failed_timed_out) in
    let e8 = row (counts rows.leaky) in
    let e9 = row (counts rows.leaky_failed) in
    let e10 = row (counts rows.exec_failed) in
    let e11 = weight_more (counts fails_test test) test.plan.weight (failed_weight (take i tests)) (failed_weight (take (i + 1) tests)) (sum weighed) in
    cc
  where
    weighed : TestState → ℕ
    weighed test = cond (counts fails_test test) test.plan.weight 0

    sum : (of : TestState → ℕ) → sum_by of (take (i + 1) tests) ≡ sum_by of (take i tests) + of test
    sum of =
        let same : of test ≡ of (get_or tests i test) = ap of is in
        sum_by_more of tests i test within ∙ ap (λ (n : ℕ). sum_by of (take i tests) + n) (sym same)

    as_number : (b : Bool) → from_bool b ≡ cond b 1 0
    as_number true = refl
    as_number false = refl

    row : (p : TestState → Bool) → count_by p (take i tests) + from_bool (p test) ≡ count_by p (take (i + 1) tests)
    row p =
        let more = sum (λ (t : TestState). cond (p t) 1 0) in
        let one = as_number (p test) in
        omega (arith, more, one)

pub loop-test-init : goal.loop-test-init
loop-test-init g c = sym (none_yet c.args.stats.now c.requires.uncounted)

pub count_in-requires : goal.count_in-requires
count_in-requires g c =
    let many = length-take-le c.loop-test.test-index c.args.tests.now c.loop-test.auto.test-index-end in
    let within = c.loop-test-test.true in
    let few = c.requires.bound in
    record {
      below_maximum = subst CanCountTest (sym c.loop-test.invariant)
          (fits_more (take c.loop-test.test-index c.args.tests.now) c.args.stats.now (omega (arith, many, within, few)));
    }

pub loop-test-preserved : goal.loop-test-preserved
loop-test-preserved g c =
    c.count_in.ensures ∙ ap (with_finished c.test-item.result) c.loop-test.invariant
    ∙ one_more c.args.tests.now c.loop-test.test-index c.test-item.result c.args.stats.now c.loop-test-test.true c.test-item.is

pub returns : goal.returns
returns g c =
    c.loop-test.invariant ∙ ap (λ (tests : List TestState). with_tests_counted tests c.args.stats.now) (take_all c.loop-test.test-index c.args.tests.now c.loop-test-test.false)

-- The counters of a run, from one state to the next.
use Rattle.std.proofs.Common.{◌≡◌, ℕ, ◌+◌, ◌≤◌, Bool, true, false, cond, ◌&&◌, List, [], ◌∷◌, length, Option, None, Some, map, refl, sym, ap, subst, ◌∙◌, arith, count_by}
use Rattle.std.specs.Prelude.{slice_get, slice_set}
use Rattle.std.specs.Int.{from_bool}
use Rattle.std.specs.Option.{option_map_or}
use Rattle.std.proofs.lemmas.List.{length-set}
use Rattle.std.proofs.lemmas.List.Sums.{sum_by-cons, count_by-le-length}
use Rattle.nextest_config_elements_choices.specs.declared.max_fail.MaxFail.{MaxFail}
use Rattle.nextest_config_elements_choices.specs.declared.timeouts.FlakyResult.{FlakyResult}
use Rattle.nextest_config_elements_choices.specs.declared.timeouts.FlakyResult.TheVariants as rule
use Rattle.nextest_config_elements_choices.specs.declared.timeouts.LeakTimeoutResult.TheVariants as leak
use Rattle.nextest_config_elements_choices.specs.declared.timeouts.SlowTimeoutResult.TheVariants as timeout
use Rattle.nextest_run_events_counters.specs.Rows as rows
use Rattle.nextest_run_events_counters.specs.Rows.{Finished, fails_test}
use Rattle.nextest_run_events_counters.specs.Summary.{failed_count}
use Rattle.nextest_run_events_counters.specs.declared.run_stats.RunStats.{RunStats}
use Rattle.nextest_run_events_results.specs.declared.cancel_reason.CancelReason.{CancelReason}
use Rattle.nextest_run_events_results.specs.declared.result.ExecutionResultDescription.{ExecutionResultDescription}
use Rattle.nextest_run_events_results.specs.declared.result.ExecutionResultDescription.TheVariants as ended
use Rattle.nextest_run_events_results.specs.declared.record.Record.{Record}
use Rattle.test_runner_core_run_model.specs.Counters.{counters}
use Rattle.test_runner_core_run_model.specs.State.{TestState, State, waiting, counts, is_finished, last_record, finished_as, failed_weight}
use Rattle.test_runner_core_run_state.specs.Counted.{with_finished, with_tests_counted}
use Rattle.test_runner_core_run_state.specs.Parts.{ScriptState, state_of}
use Rattle.test_runner_core_run_model.specs.declared.run_test.RunTest.{RunTest}
use Rattle.test_runner_core_run_state.proofs.Kept.{length_map}
use Rattle.test_runner_core_run_state.proofs.Tallies.{counted_after, none_waits, none_weighs}

-- the counters are those of the state that these parts keep
abbrev pub Counts : ScriptState → List TestState → RunStats → MaxFail → Type 0
Counts scripts tests stats limit = stats ≡ counters (state_of scripts tests stats limit)

-- tests that are counted anew, under another reason
pub tests_changed : (scripts : ScriptState) (tests new : List TestState) (stats next : RunStats) (limit : MaxFail) (reason : Option CancelReason)
    → Counts scripts tests stats limit → length new ≡ length tests → next ≡ record (with_tests_counted new stats) { cancel_reason = reason } → Counts scripts new next limit
tests_changed scripts tests new stats next limit reason own many made =
    made ∙ ap (λ (s : RunStats). record (with_tests_counted new s) { cancel_reason = reason }) own
    ∙ ap (λ (n : ℕ). shown n stats.skipped reason) (sym many)
    ∙ ap (λ (n : ℕ). shown (length new) n reason) (sym (ap (λ (s : RunStats). s.skipped) made))
    ∙ ap (λ (r : Option CancelReason). shown (length new) next.skipped r) (sym (ap (λ (s : RunStats). s.cancel_reason) made))
  where
    shown : ℕ → ℕ → Option CancelReason → RunStats
    shown n skipped why = record (with_tests_counted new (counters (state_of scripts tests stats limit))) { initial_run_count = n; skipped = skipped; cancel_reason = why }

-- what is counted is counted anew with the same numbers
pub same_anew : (scripts : ScriptState) (tests : List TestState) (stats : RunStats) (limit : MaxFail) → Counts scripts tests stats limit → with_tests_counted tests stats ≡ stats
same_anew scripts tests stats limit own = ap (with_tests_counted tests) own ∙ sym own

-- a test that wasn't finished gives way to another
pub test_changed : (scripts : ScriptState) (tests : List TestState) (place : ℕ) (old new : TestState) (stats next : RunStats) (limit : MaxFail)
    → Counts scripts tests stats limit → slice_get tests place ≡ Some old → is_finished old ≡ false → next ≡ with_finished new stats
    → Counts scripts (slice_set tests place new) next limit
test_changed scripts tests place old new stats next limit own found open_still made =
    tests_changed scripts tests (slice_set tests place new) stats next limit stats.cancel_reason own (length-set tests place new)
    (made ∙ ap (with_finished new) (sym (same_anew scripts tests stats limit own)) ∙ sym (counted_after tests place old new stats found open_still))

-- ---- at the start

-- nothing counted
abbrev pub nothing : RunStats
nothing =
    record {
      initial_run_count = 0;
      finished_count = 0;
      setup_scripts_initial_count = 0;
      setup_scripts_finished_count = 0;
      setup_scripts_passed = 0;
      setup_scripts_failed = 0;
      setup_scripts_exec_failed = 0;
      setup_scripts_timed_out = 0;
      passed = 0;
      passed_slow = 0;
      passed_timed_out = 0;
      flaky = 0;
      failed = 0;
      failed_slow = 0;
      failed_timed_out = 0;
      leaky = 0;
      leaky_failed = 0;
      exec_failed = 0;
      skipped = 0;
      failed_weight = 0;
      cancel_reason = None;
    }

-- counters of which each is 0 are those of nothing
pub is_nothing : (d : RunStats) → (d.initial_run_count ≡ 0) × ((d.finished_count ≡ 0) × ((d.setup_scripts_initial_count ≡ 0) × ((d.setup_scripts_finished_count ≡ 0) × ((d.setup_scripts_passed ≡ 0) × ((d.setup_scripts_failed ≡ 0) × ((d.setup_scripts_exec_failed ≡ 0) × ((d.setup_scripts_timed_out ≡ 0) × ((d.passed ≡ 0) × ((d.passed_slow ≡ 0) × ((d.passed_timed_out ≡ 0) × ((d.flaky ≡ 0) × ((d.failed ≡ 0) × ((d.failed_slow ≡ 0) × ((d.failed_timed_out ≡ 0) × ((d.leaky ≡ 0) × ((d.leaky_failed ≡ 0) × ((d.exec_failed ≡ 0) × ((d.skipped ≡ 0) × ((d.failed_weight ≡ 0) × (d.cancel_reason ≡ None)))))))))))))))))))) → d ≡ nothing
is_nothing d each =
    let all : ◌≡◌ {A = RunStats} (record { initial_run_count = d.initial_run_count; finished_count = d.finished_count; setup_scripts_initial_count = d.setup_scripts_initial_count; setup_scripts_finished_count = d.setup_scripts_finished_count; setup_scripts_passed = d.setup_scripts_passed; setup_scripts_failed = d.setup_scripts_failed; setup_scripts_exec_failed = d.setup_scripts_exec_failed; setup_scripts_timed_out = d.setup_scripts_timed_out; passed = d.passed; passed_slow = d.passed_slow; passed_timed_out = d.passed_timed_out; flaky = d.flaky; failed = d.failed; failed_slow = d.failed_slow; failed_timed_out = d.failed_timed_out; leaky = d.leaky; leaky_failed = d.leaky_failed; exec_failed = d.exec_failed; skipped = d.skipped; failed_weight = d.failed_weight; cancel_reason = d.cancel_reason }) nothing =
    rw (each.0, each.1.0, each.1.1.0, each.1.1.1.0, each.1.1.1.1.0, each.1.1.1.1.1.0, each.1.1.1.1.1.1.0, each.1.1.1.1.1.1.1.0, each.1.1.1.1.1.1.1.1.0, each.1.1.1.1.1.1.1.1.1.0, each.1.1.1.1.1.1.1.1.1.1.0, each.1.1.1.1.1.1.1.1.1.1.1.0, each.1.1.1.1.1.1.1.1.1.1.1.1.0, each.1.1.1.1.1.1.1.1.1.1.1.1.1.0, each.1.1.1.1.1.1.1.1.1.1.1.1.1.1.0, each.1.1.1.1.1.1.1.1.1.1.1.1.1.1.1.0, each.1.1.1.1.1.1.1.1.1.1.1.1.1.1.1.1.0, each.1.1.1.1.1.1.1.1.1.1.1.1.1.1.1.1.1.0, each.1.1.1.1.1.1.1.1.1.1.1.1.1.1.1.1.1.1.0, each.1.1.1.1.1.1.1.1.1.1.1.1.1.1.1.1.1.1.1.0, each.1.1.1.1.1.1.1.1.1.1.1.1.1.1.1.1.1.1.1.1) refl in
    all

pub fresh : (planned n skipped : ℕ) (scripts : ScriptState) (tests : List TestState) (plans : List RunTest) (limit : MaxFail) (none : RunStats)
    → scripts ≡ record { planned = planned; ended = [] } → tests ≡ map waiting plans → n ≡ length plans → none ≡ nothing
    → Counts scripts tests (record none { initial_run_count = n; setup_scripts_initial_count = planned; skipped = skipped }) limit
fresh planned n skipped scripts tests plans limit none scripts_are tests_are count none_is =
    subst (λ (s : ScriptState). Counts s tests (record none { initial_run_count = n; setup_scripts_initial_count = planned; skipped = skipped }) limit) (sym scripts_are)
    (subst (λ (ts : List TestState). Counts (record { planned = planned; ended = [] }) ts (record none { initial_run_count = n; setup_scripts_initial_count = planned; skipped = skipped }) limit) (sym tests_are)
    (subst (λ (d : RunStats). Counts (record { planned = planned; ended = [] }) (map waiting plans) (record d { initial_run_count = n; setup_scripts_initial_count = planned; skipped = skipped }) limit) (sym none_is) waiting_counts))
  where
    waiting_counts : Counts (record { planned = planned; ended = [] }) (map waiting plans) (record nothing { initial_run_count = n; setup_scripts_initial_count = planned; skipped = skipped }) limit
    waiting_counts =
        let many : length (map waiting plans) ≡ n = length_map waiting plans ∙ sym count in
        let e0 = none_waits is_finished (λ plan. refl) plans in
        let e1 = none_waits (counts rows.is_passed) (λ plan. refl) plans in
        let e2 = none_waits (counts rows.passed_slow) (λ plan. refl) plans in
        let e3 = none_waits (counts rows.passed_timed_out) (λ plan. refl) plans in
        let e4 = none_waits (counts rows.flaky) (λ plan. refl) plans in
        let e5 = none_waits (counts rows.is_failed) (λ plan. refl) plans in
        let e6 = none_waits (counts rows.failed_slow) (λ plan. refl) plans in
        let e7 = none_waits (counts rows.failed_timed_out) (λ plan. refl) plans in
        let e8 = none_waits (counts rows.leaky) (λ plan. refl) plans in
        let e9 = none_waits (counts rows.leaky_failed) (λ plan. refl) plans in
        let e10 = none_waits (counts rows.exec_failed) (λ plan. refl) plans in
        let e11 = none_weighs plans in
        rw (many, e0, e1, e2, e3, e4, e5, e6, e7, e8, e9, e10, e11) refl

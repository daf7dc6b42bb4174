use Rattle.std.proofs.Common.{◌≡◌, ℕ, ◌+◌, ◌<◌, ◌++◌, ◌∷◌, [], Bool, true, false, cond, List, length, Option, refl, ap, sym, subst, ◌∙◌, arith, count_by}
use Rattle.std.specs.Int.{from_bool}
use Rattle.std.proofs.lemmas.List.{length_push}
use Rattle.std.proofs.lemmas.List.Sums.{sum_by-append, sum_by-cons}
use Rattle.nextest_config_elements_choices.specs.declared.max_fail.MaxFail.{MaxFail}
use Rattle.nextest_run_events_counters.specs.Counting.{with_script}
use Rattle.nextest_run_events_counters.specs.Rows as rows
use Rattle.nextest_run_events_counters.specs.declared.run_stats.RunStats.{RunStats}
use Rattle.nextest_run_events_results.specs.declared.cancel_reason.CancelReason.{CancelReason}
use Rattle.nextest_run_events_results.specs.declared.record.Record.{Record}
use Rattle.test_runner_core_run_model.specs.Counters.{counters}
use Rattle.test_runner_core_run_model.specs.State.{TestState, State}
use Rattle.test_runner_core_run_state.specs.Parts.{ScriptState, state_of}
use Rattle.test_runner_core_run_state.specs.Statuses.{IsScriptStatusOf, script_record_of}
use Rattle.test_runner_core_run_state.specs.contracts.progress.Progress.{the_view}
use Rattle.test_runner_core_run_state.proofs.Kept.{script_record_back}
use Rattle.test_runner_core_run_state.proofs.Totals.{Counts}
use Rattle.test_runner_core_run_state.proofs.progress.Progress.end_script.Goals as goal

-- one more script is counted
one_more : (state : State) (ending : Record) → with_script ending.result (counters state) ≡ counters (record state { scripts = state.scripts ++ ending ∷ [] })
one_more state ending =
    let e0 = sym (length_push state.scripts ending) in
    let e1 = row (λ t. rows.script_passed t.result) in
    let e2 = row (λ t. rows.script_failed t.result) in
    let e3 = row (λ t. rows.script_exec_failed t.result) in
    let e4 = row (λ t. rows.script_timed_out t.result) in
    rw (e0, e1, e2, e3, e4) refl
  where
    as_number : (b : Bool) → from_bool b ≡ cond b 1 0
    as_number true = refl
    as_number false = refl

    row : (p : Record → Bool) → count_by p state.scripts + from_bool (p ending) ≡ count_by p (state.scripts ++ ending ∷ [])
    row p =
        let more = sum_by-append (λ (t : Record). cond (p t) 1 0) state.scripts (ending ∷ []) in
        let last = sum_by-cons (λ (t : Record). cond (p t) 1 0) ending [] in
        let one = as_number (p ending) in
        omega (arith, more, last, one)

script_counted : (scripts : ScriptState) (tests : List TestState) (ending : Record) (stats next : RunStats) (limit : MaxFail) → Counts scripts tests stats limit → next ≡ with_script ending.result stats
    → Counts (record { planned = scripts.planned; ended = scripts.ended ++ ending ∷ [] }) tests next limit
script_counted scripts tests ending stats next limit own made =
    made ∙ ap (with_script ending.result) own ∙ one_more (state_of scripts tests stats limit) ending
    ∙ ap (λ (n : ℕ). shown n stats.cancel_reason) (sym (ap (λ (s : RunStats). s.skipped) made))
    ∙ ap (λ (r : Option CancelReason). shown next.skipped r) (sym (ap (λ (s : RunStats). s.cancel_reason) made))
  where
    shown : ℕ → Option CancelReason → RunStats
    shown n why = counters (record { planned_scripts = scripts.planned; scripts = scripts.ended ++ ending ∷ []; tests = tests; limit = limit; skipped = n; reason = why })

pub end-requires : goal.end-requires
end-requires g c =
    let status = c.script_status-status.result in
    let made = c.script_status-status.ensures in
    record {
      planned = subst (λ (s : State). length s.scripts < s.planned_scripts) (sym c.self.view_is) c.requires;
      made = subst (λ (ending : Record). IsScriptStatusOf ending status) (sym (script_record_back c.args.record status made)) made;
    }

pub invariant_of-self : goal.invariant_of-self
invariant_of-self g c =
    let stats = c.on_setup_script_finished.new.self in
    subst (λ (scripts : ScriptState). Counts scripts c.self.inside.tests stats c.self.inside.limit) (sym c.end.ensures)
    (script_counted c.self.inside.scripts c.self.inside.tests (script_record_of c.script_status-status.result) c.self.inside.stats stats c.self.inside.limit c.self.invariant c.on_setup_script_finished.ensures)

pub returns : goal.returns
returns g c =
    let state = the_view g.row.A g.row.A-Ending g.A.KeepAttempts c.self.inside in
    let stats = c.on_setup_script_finished.new.self in
    let kept = c.on_setup_script_finished.ensures in
    let back = script_record_back c.args.record c.script_status-status.result c.script_status-status.ensures in
    let shown : ℕ → Option CancelReason → State = λ skipped reason. record state { scripts = state.scripts ++ c.args.record ∷ []; skipped = skipped; reason = reason } in
    let now = state_of c.end.new.self c.self.inside.tests stats c.self.inside.limit in
    subst (λ (s : State). now ≡ record s { scripts = s.scripts ++ c.args.record ∷ [] }) c.self.view_is
    (ap (λ (scripts : ScriptState). state_of scripts c.self.inside.tests stats c.self.inside.limit) c.end.ensures
    ∙ ap (λ (ending : Record). state_of (record { planned = state.planned_scripts; ended = state.scripts ++ ending ∷ [] }) c.self.inside.tests stats c.self.inside.limit) back
    ∙ ap (λ (n : ℕ). shown n stats.cancel_reason) (ap (λ (s : RunStats). s.skipped) kept)
    ∙ ap (λ (r : Option CancelReason). shown state.skipped r) (ap (λ (s : RunStats). s.cancel_reason) kept))

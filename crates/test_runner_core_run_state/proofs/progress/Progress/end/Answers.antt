use Rattle.std.proofs.Common.{◌≡◌, ℕ, Option, Some, List, refl, sym, ap, subst, ◌∙◌, arith, length}
use Rattle.std.specs.Prelude.{slice_get}
use Rattle.std.proofs.lemmas.List.{length-set}
use Rattle.std.proofs.lemmas.Option.{slice_get_within}
use Rattle.nextest_run_events_counters.specs.Counting.{CanCountTest}
use Rattle.nextest_run_events_counters.specs.declared.run_stats.RunStats.{RunStats}
use Rattle.nextest_run_events_results.specs.declared.cancel_reason.CancelReason.{CancelReason}
use Rattle.test_runner_core_run_model.specs.Counters.{counters}
use Rattle.test_runner_core_run_model.specs.State.{TestState, State, is_finished_mark}
use Rattle.test_runner_core_run_model.specs.Step.{after_attempt}
use Rattle.test_runner_core_run_state.specs.Parts.{IsRunningAt, state_of}
use Rattle.test_runner_core_run_state.specs.Progress.{EndsAttempt}
use Rattle.test_runner_core_run_state.specs.contracts.progress.Progress.{the_view}
use Rattle.test_runner_core_run_state.proofs.Counts.{written}
use Rattle.test_runner_core_run_state.proofs.Tallies.{fits_more}
use Rattle.test_runner_core_run_state.proofs.Totals.{Counts, test_changed}
use Rattle.test_runner_core_run_state.proofs.progress.Progress.end.Goals as goal

pub count_at-requires-clause-place : goal.count_at-requires-clause-place
count_at-requires-clause-place g c =
    let state = the_view g.row.A g.row.A-Ending g.A.KeepAttempts c.self.inside in
    let it : IsRunningAt state.tests c.args.test = subst (λ (s : State). IsRunningAt s.tests c.args.test) (sym c.self.view_is) c.requires in
    let is_new = c.end-finished.ensures.after state refl it.test it.found in
    let within = slice_get_within state.tests c.args.test it.test it.found in
    let same = ap length is_new ∙ length-set state.tests c.args.test (after_attempt state it.test (g.A.KeepAttempts.record_of c.args.ending)) in
    omega (arith, within, same)

pub count_at-requires-clause-below_maximum : goal.count_at-requires-clause-below_maximum
count_at-requires-clause-below_maximum g c =
    let state = the_view g.row.A g.row.A-Ending g.A.KeepAttempts c.self.inside in
    let bound = c.end-finished.ensures.bound in
    subst CanCountTest (sym c.self.invariant) (fits_more state.tests (counters state) (omega (arith, bound)))

pub invariant_of-self : goal.invariant_of-self
invariant_of-self g c =
    let state = the_view g.row.A g.row.A-Ending g.A.KeepAttempts c.self.inside in
    let it : IsRunningAt state.tests c.args.test = subst (λ (s : State). IsRunningAt s.tests c.args.test) (sym c.self.view_is) c.requires in
    let made = after_attempt state it.test (g.A.KeepAttempts.record_of c.args.ending) in
    let is_new = c.end-finished.ensures.after state refl it.test it.found in
    let there : slice_get c.end-finished.new.self c.args.test ≡ Some made = ap (λ (ts : List TestState). slice_get ts c.args.test) is_new ∙ written state.tests c.args.test it.test made it.found in
    subst (λ (ts : List TestState). Counts c.self.inside.scripts ts c.count_at.new.stats c.self.inside.limit) (sym is_new)
    (test_changed c.self.inside.scripts state.tests c.args.test it.test made c.self.inside.stats c.count_at.new.stats c.self.inside.limit c.self.invariant it.found (ap is_finished_mark it.runs) (c.count_at.ensures made there))

pub returns : goal.returns
returns g c =
    let state = the_view g.row.A g.row.A-Ending g.A.KeepAttempts c.self.inside in
    let it : IsRunningAt state.tests c.args.test = subst (λ (s : State). IsRunningAt s.tests c.args.test) (sym c.self.view_is) c.requires in
    let made = after_attempt state it.test (g.A.KeepAttempts.record_of c.args.ending) in
    let is_new = c.end-finished.ensures.after state refl it.test it.found in
    let there : slice_get c.end-finished.new.self c.args.test ≡ Some made = ap (λ (ts : List TestState). slice_get ts c.args.test) is_new ∙ written state.tests c.args.test it.test made it.found in
    let stats = c.count_at.ensures made there in
    let shown : ℕ → Option CancelReason → State = λ skipped reason. record state { tests = c.end-finished.new.self; skipped = skipped; reason = reason } in
    subst (λ (s : State). EndsAttempt s c.args.test (g.A.KeepAttempts.record_of c.args.ending) c.end-finished.result (state_of c.self.inside.scripts c.end-finished.new.self c.count_at.new.stats c.self.inside.limit)) c.self.view_is
    (record {
      rest = ap (λ (n : ℕ). shown n c.count_at.new.stats.cancel_reason) (ap (λ (s : RunStats). s.skipped) stats) ∙ ap (λ (r : Option CancelReason). shown state.skipped r) (ap (λ (s : RunStats). s.cancel_reason) stats);
      test = λ test found. c.end-finished.ensures.after state refl test found;
      is_finished = λ test found. c.end-finished.ensures.finished state test refl found;
    })

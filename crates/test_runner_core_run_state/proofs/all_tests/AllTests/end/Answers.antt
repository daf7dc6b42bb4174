use Rattle.std.proofs.Common.{◌≡◌, ◌-◌, List, refl, ap, subst, sym, arith, count_by}
use Rattle.test_runner_core_run_model.specs.State.{TestState, is_running, is_running_mark}
use Rattle.test_runner_core_run_model.specs.Step.{after_attempt}
use Rattle.test_runner_core_run_state.specs.Parts.{IsRunningAt}
use Rattle.test_runner_core_run_state.proofs.Tallies.{ended_running, after_idle, runs_some, with_reason}
use Rattle.test_runner_core_run_state.proofs.all_tests.AllTests.end.Goals as goal

pub overflow_sub-self : goal.overflow_sub-self
overflow_sub-self g c =
    let it : IsRunningAt c.self.inside.tests c.args.place = subst (λ (tests : List TestState). IsRunningAt tests c.args.place) (sym c.self.view_is) c.requires in
    let some = runs_some c.self.inside.tests c.args.place it.test it.found (ap is_running_mark it.runs) in
    let count = c.self.invariant in
    omega (arith, some, count)

pub invariant_of-self : goal.invariant_of-self
invariant_of-self g c =
    let it : IsRunningAt c.self.inside.tests c.args.place = subst (λ (tests : List TestState). IsRunningAt tests c.args.place) (sym c.self.view_is) c.requires in
    let state = with_reason c.args.reason in
    subst (λ (tests : List TestState). c.self.inside.running - 1 ≡ count_by is_running tests)
    (sym (c.end-finished.ensures.after state refl it.test it.found))
    (ended_running c.self.inside.tests c.args.place c.self.inside.running it.test (after_attempt state it.test (g.A.KeepAttempts.record_of c.args.ending)) it.found (ap is_running_mark it.runs)
    (after_idle state it.test (g.A.KeepAttempts.record_of c.args.ending)) c.self.invariant)

use Rattle.std.proofs.Common.{◌≡◌, Bool, not, ◌&&◌, Ok, ap, sym, subst, ◌∙◌}
use Rattle.std.specs.Prelude.{is_some}
use Rattle.test_runner_core_run_model.specs.State.{State}
use Rattle.test_runner_core_run_model.specs.Step.{attempt_ended, after_limit}
use Rattle.test_runner_core_run_state.specs.Parts.{IsRunningAt}
use Rattle.test_runner_core_run_state.specs.Progress.{EndsAttempt}
use Rattle.test_runner_core_run_state.specs.contracts.progress.Progress.{the_view}
use Rattle.test_runner_core_run_model.specs.declared.event.Event.TheVariants as events
use Rattle.test_runner_core_run_state.proofs.Taken.{ended_is, running_at, end_leads, shown_test, takes_step}
use Rattle.test_runner_core_run_state.proofs.progress.Progress.attempt_finished.Goals as goal

pub end-finished-requires : goal.end-finished-requires
end-finished-requires g c =
    let state = the_view g.row.A g.row.A-Ending g.A.KeepAttempts c.self.inside in
    subst (λ (s : State). IsRunningAt s.tests c.args.test) c.self.view_is
    (running_at state c.args.test (g.A.KeepAttempts.record_of c.args.ending)
    (c.in_default-end_refusal.ensures state c.args.test (g.A.KeepAttempts.record_of c.args.ending) (shown_test state c.args.test c.in-Some.mark c.in-Some.ensures)))

pub returns : goal.returns
returns g c =
    let state = the_view g.row.A g.row.A-Ending g.A.KeepAttempts c.self.inside in
    let it : IsRunningAt state.tests c.args.test =
    running_at state c.args.test (g.A.KeepAttempts.record_of c.args.ending)
    (c.in_default-end_refusal.ensures state c.args.test (g.A.KeepAttempts.record_of c.args.ending) (shown_test state c.args.test c.in-Some.mark c.in-Some.ensures)) in
    let ends = subst (λ (s : State). EndsAttempt s c.args.test (g.A.KeepAttempts.record_of c.args.ending) c.end-finished.result c.end-finished.new.self) (sym c.self.view_is) c.end-finished.ensures in
    let new = c.stop_for.new.self in
    let taken =
    subst (λ (s : State). attempt_ended s c.args.test (g.A.KeepAttempts.record_of c.args.ending) ≡ Ok new) c.self.view_is
    (end_leads state c.args.test (g.A.KeepAttempts.record_of c.args.ending) c.end-finished.new.self.tests c.end-finished.result it ends.test ends.is_finished
    ∙ ap (λ (s : State). Ok (after_limit c.end-finished.result s)) (sym ends.rest)
    ∙ ap (λ (s : State). Ok s) (c.limit_stop-exceeded.ensures ∙ sym c.stop_for.ensures)) in
    takes_step c.args.self.now new (events.Ended c.args.test (g.A.KeepAttempts.record_of c.args.ending)) c.finished.result taken
    (ended_is new c.args.test (g.A.KeepAttempts.record_of c.args.ending) c.finished.result.ended c.finished.ensures.ended)
    (c.finished.ensures.stops ∙ ap (λ (b : Bool). not b && is_some new.reason) c.is_stopped-was_stopped.ensures)

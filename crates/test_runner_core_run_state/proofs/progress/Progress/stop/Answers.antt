use Rattle.std.proofs.Common.{◌≡◌, not, Option, Some, Ok, refl, ap, sym, subst, ◌∙◌}
use Rattle.std.specs.Option.{option_map_or}
use Rattle.nextest_run_events_results.specs.Cancel.{graver_reason}
use Rattle.nextest_run_events_results.specs.declared.cancel_reason.CancelReason.{CancelReason}
use Rattle.test_runner_core_run_model.specs.State.{State}
use Rattle.test_runner_core_run_model.specs.Step.{state_after_stop, stopped_by}
use Rattle.test_runner_core_run_model.specs.declared.event.Event.TheVariants as events
use Rattle.test_runner_core_run_state.specs.contracts.progress.Progress.{the_view}
use Rattle.test_runner_core_run_state.proofs.Taken.{stop_leads, stops_unless, takes_step}
use Rattle.test_runner_core_run_state.proofs.progress.Progress.stop.Goals as goal

pub returns-in-Some-cancel_reason : goal.returns-in-Some-cancel_reason
returns-in-Some-cancel_reason g c =
    let state = the_view g.row.A g.row.A-Ending g.A.KeepAttempts c.self.inside in
    let old = c.args.self.now in
    let new = record state { reason = Some c.graver.result } in
    let happens =
    subst (λ (s : State). state_after_stop s c.args.reason ≡ Ok new) c.self.view_is
    (stop_leads state c.args.reason (c.in_default.ensures state)
    ∙ ap (λ (o : Option CancelReason). Ok (option_map_or (λ old. record state { reason = Some (graver_reason old c.args.reason) }) o (stopped_by c.args.reason state))) c.in-Some-cancel_reason.is
    ∙ ap (λ (r : CancelReason). Ok (record state { reason = Some r })) (sym c.graver.ensures)) in
    takes_step old new (events.Stopped c.args.reason) _ happens refl
    (ap not c.is_stopped-stops.ensures ∙ stops_unless old new c.graver.result refl)

pub returns-in-None : goal.returns-in-None
returns-in-None g c =
    let state = c.args.self.now in
    let new = c.stop_for.new.self in
    let happens =
    stop_leads state c.args.reason (c.in_default.ensures state)
    ∙ ap (λ (o : Option CancelReason). Ok (option_map_or (λ old. record state { reason = Some (graver_reason old c.args.reason) }) o (stopped_by c.args.reason state)))
    (sym (ap (λ (s : State). s.reason) c.self.view_is) ∙ c.in-None.is)
    ∙ ap (λ (s : State). Ok s) (sym c.stop_for.ensures) in
    takes_step state new (events.Stopped c.args.reason) _ happens refl
    (ap not c.is_stopped-stops.ensures ∙ stops_unless state new c.args.reason (ap (λ (s : State). s.reason) c.stop_for.ensures))

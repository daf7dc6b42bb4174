use Rattle.std.proofs.Common.{◌≡◌, ◌<◌, ◌++◌, ◌∷◌, [], None, Ok, length, refl, ap, sym, subst, ◌∙◌}
use Rattle.std.specs.Option.{option_map_or}
use Rattle.test_runner_core_run_model.specs.Finishing.{stops_run}
use Rattle.test_runner_core_run_model.specs.State.{State}
use Rattle.test_runner_core_run_model.specs.Step.{script_ended, stopped_by}
use Rattle.test_runner_core_run_model.specs.declared.event.Event.TheVariants as events
use Rattle.test_runner_core_run_state.specs.contracts.progress.Progress.{the_view}
use Rattle.test_runner_core_run_state.proofs.Taken.{script_leads, script_within, stop_given, takes_step}
use Rattle.test_runner_core_run_state.proofs.progress.Progress.script_finished.Goals as goal

pub end_script-requires : goal.end_script-requires
end_script-requires g c =
    let state = the_view g.row.A g.row.A-Ending g.A.KeepAttempts c.self.inside in
    subst (λ (s : State). length s.scripts < s.planned_scripts) c.self.view_is
    (script_within state c.args.script c.args.record
    (c.in_default.ensures state c.args.record
    (record { planned_scripts = sym c.planned-planned.ensures; ended_scripts = sym c.ended-ended.ensures.count; reason = sym c.is_some-is_stopped.ensures }))).0

pub returns : goal.returns
returns g c =
    let state = the_view g.row.A g.row.A-Ending g.A.KeepAttempts c.self.inside in
    let taken = script_within state c.args.script c.args.record
    (c.in_default.ensures state c.args.record
    (record { planned_scripts = sym c.planned-planned.ensures; ended_scripts = sym c.ended-ended.ensures.count; reason = sym c.is_some-is_stopped.ensures })) in
    let first = subst (λ (s : State). c.end_script.new.self ≡ record s { scripts = s.scripts ++ c.args.record ∷ [] }) (sym c.self.view_is) c.end_script.ensures in
    let after = ap (λ (s : State). option_map_or (λ new. stopped_by new s) c.script_stop-failed.result s) first in
    let new = c.stop_for.new.self in
    let happens =
    subst (λ (s : State). script_ended s c.args.script c.args.record ≡ Ok new) c.self.view_is
    (taken.2 ∙ ap (λ (s : State). Ok s) (script_leads state c.args.record c.script_stop-failed.result c.script_stop-failed.ensures ∙ sym (c.stop_for.ensures ∙ after))) in
    let old = c.args.self.now in
    let none : old.reason ≡ None = subst (λ (s : State). s.reason ≡ None) c.self.view_is taken.1 in
    let mid = c.end_script.new.self in
    let still : mid.reason ≡ None = ap (λ (s : State). s.reason) c.end_script.ensures ∙ none in
    takes_step old new (events.ScriptEnded c.args.script c.args.record) _ happens refl
    (c.is_some.ensures ∙ sym (ap (stops_run old) c.stop_for.ensures ∙ stop_given old mid c.script_stop-failed.result none still))

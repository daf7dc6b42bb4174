use Rattle.std.proofs.Common.{◌≡◌, Some, None, sym, ap, subst, ◌∙◌}
use Rattle.nextest_config_elements_choices.specs.declared.max_fail.TerminateMode.{TerminateMode}
use Rattle.nextest_run_events_results.specs.declared.cancel_reason.CancelReason.TheVariants as why
use Rattle.nextest_run_events_counters.specs.declared.run_stats.RunStats.{RunStats}
use Rattle.test_runner_core_run_model.specs.State.{State, failed_weight}
use Rattle.test_runner_core_run_model.specs.Step.{after_limit, stopped_by}
use Rattle.test_runner_core_run_state.specs.contracts.progress.Progress.{the_view}
use Rattle.test_runner_core_run_state.proofs.Taken.{limited_when}
use Rattle.test_runner_core_run_state.proofs.progress.Progress.limit_stop.Goals as goal

pub returns-in-Some-Wait : goal.returns-in-Some-Wait
returns-in-Some-Wait g c =
    let state = the_view g.row.A g.row.A-Ending g.A.KeepAttempts c.self.inside in
    subst (λ (s : State). after_limit c.args.finished s ≡ stopped_by why.TestFailure s) c.self.view_is
    (limited_when state c.args.finished _ c.if-not-finished.false (sym c.is_some.ensures ∙ c.if-is_some.false)
    (sym (c.is_exceeded.ensures.capped (failed_weight state.tests) (ap (λ (s : RunStats). s.failed_weight) c.self.invariant)) ∙ c.in-Some-Wait.is ∙ ap (λ (m : TerminateMode). Some m) c.in-Some-Wait.field-0-is))

pub returns-in-Some-Immediate : goal.returns-in-Some-Immediate
returns-in-Some-Immediate g c =
    let state = the_view g.row.A g.row.A-Ending g.A.KeepAttempts c.self.inside in
    subst (λ (s : State). after_limit c.args.finished s ≡ stopped_by why.TestFailureImmediate s) c.self.view_is
    (limited_when state c.args.finished _ c.if-not-finished.false (sym c.is_some.ensures ∙ c.if-is_some.false)
    (sym (c.is_exceeded.ensures.capped (failed_weight state.tests) (ap (λ (s : RunStats). s.failed_weight) c.self.invariant)) ∙ c.in-Some-Immediate.is ∙ ap (λ (m : TerminateMode). Some m) c.in-Some-Immediate.field-0-is))

pub returns-in-None : goal.returns-in-None
returns-in-None g c =
    let state = the_view g.row.A g.row.A-Ending g.A.KeepAttempts c.self.inside in
    subst (λ (s : State). after_limit c.args.finished s ≡ s) c.self.view_is
    (limited_when state c.args.finished None c.if-not-finished.false (sym c.is_some.ensures ∙ c.if-is_some.false)
    (sym (c.is_exceeded.ensures.capped (failed_weight state.tests) (ap (λ (s : RunStats). s.failed_weight) c.self.invariant)) ∙ c.in-None.is))

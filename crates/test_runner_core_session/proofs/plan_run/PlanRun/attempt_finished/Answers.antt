use Rattle.std.proofs.Common.{subst}
use Rattle.test_runner_core_run_model.specs.FailLimit.{StopsAtLimit}
use Rattle.test_runner_core_run_state.proofs.Taken.{takes_at_limit}
use Rattle.test_runner_core_session.specs.Session.{SessionState}
use Rattle.test_runner_core_session.proofs.plan_run.PlanRun.attempt_finished.Goals as goal

pub returns-clause-limit : goal.returns-clause-limit
returns-clause-limit g c =
    subst (λ (session : SessionState). StopsAtLimit session.run c.attempt_finished.new.self) c.self.view_is
    (takes_at_limit c.self.inside.progress c.attempt_finished.new.self c.find-place.result (g.A.KeepAttempts.record_of c.args.ending)
    c.attempt_finished.result c.attempt_finished.ensures)

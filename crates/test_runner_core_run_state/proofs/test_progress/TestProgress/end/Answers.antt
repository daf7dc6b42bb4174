use Rattle.std.proofs.Common.{◌+◌, Bool, ap, ◌∙◌}
use Rattle.std.specs.Prelude.{◌||◌, nat_le, is_some}
use Rattle.test_runner_core_run_state.proofs.Kept.{test_more}
use Rattle.test_runner_core_run_state.proofs.test_progress.TestProgress.end.Goals as goal

pub invariant_of-self : goal.invariant_of-self
invariant_of-self g c =
    let kept = g.A.KeepAttempts in
    test_more kept.are_of kept.records kept.room c.self.inside.plan c.self.inside.attempts c.push.new.self c.self.inside.mark c.mark_after-self-inside.result (g.A.KeepAttempts.record_of c.args.ending)
    c.args.reason c.is_finishing-finished.result c.len.result
    c.self.invariant c.len.ensures c.push.ensures.of c.push.ensures.records (c.is_finishing-finished.ensures ∙ ap (λ (b : Bool). b || nat_le c.self.inside.plan.tries (c.len.result + 1) || is_some c.args.reason) c.is_success-success.ensures) c.mark_after-self-inside.ensures

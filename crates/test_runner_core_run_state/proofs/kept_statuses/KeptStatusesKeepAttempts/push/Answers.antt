use Rattle.std.proofs.Common.{◌≡◌, ℕ, ◌+◌, ◌++◌, ◌∷◌, [], List, length, map, refl, sym, ap, subst, ◌∙◌, arith}
use Rattle.test_runner_core_run_state.specs.Kept.{KeepsRule, StatusesState, statuses_in}
use Rattle.test_runner_core_run_state.specs.Statuses.{AreStatusesFrom, IsStatusOf, Status, record_of}
use Rattle.test_runner_core_run_state.proofs.Kept.{length_map, status_more}
use Rattle.test_runner_core_run_state.proofs.kept_statuses.KeptStatusesKeepAttempts.push.Goals as goal

pub returns-clause-of : goal.returns-clause-of
returns-clause-of c =
    let old = (c.args.self.now).statuses in
    let tries = c.args.plan.tries in
    let status = c.execute_status-status.result in
    let is_new : statuses_in c.push_in.new.attempts ≡ old ++ status ∷ [] =
    c.push_in.ensures.statuses ∙ ap (λ (s : StatusesState). s.statuses ++ status ∷ []) c.self.view_is in
    let next = c.requires.next in
    let many = length_map record_of old in
    let number : c.args.attempt ≡ 1 + length old = omega (arith, next, many) in
    record {
      made = subst (λ (s : List Status). AreStatusesFrom 1 tries (map record_of s) s) (sym is_new)
          (status_more 1 tries old c.args.ending status c.requires.of.made (subst (λ (n : ℕ). IsStatusOf n tries c.args.ending status) number c.execute_status-status.ensures));
      rule = subst (KeepsRule c.args.plan.flaky) (sym c.push_in.ensures.rule) refl;
    }

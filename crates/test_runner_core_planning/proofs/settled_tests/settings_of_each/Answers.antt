use Rattle.std.proofs.Common.{◌+◌, ℕ, IfSome, List, length, slice_get, sym, ap, ◌∙◌, subst}
use Rattle.std.proofs.lemmas.List.{length_push}
use Rattle.nextest_config_resolution_profiles.specs.HeldRules.{held_row}
use Rattle.test_runner_core_plan.specs.declared.plan_settings.PlanSettings.{PlanSettings}
use Rattle.test_runner_core_planning.specs.Tests.{HasForRow}
use Rattle.test_runner_core_planning.proofs.Settled.{each_push}
use Rattle.test_runner_core_planning.proofs.settled_tests.settings_of_each.Goals as goal

pub loop-place-preserved : goal.loop-place-preserved
loop-place-preserved c =
    let For = λ (place : ℕ). HasForRow c.args.profile.now c.args.mode (held_row place c.args.held.now) in
    let l = c.loop-place in
    let settings = c.in_ok-settings.settings in
    record {
      shared = c.in_ok-settings.ensures.shared;
      count = ap length c.in_ok-push.ensures.items ∙ length_push l.each.items settings ∙ ap (λ (n : ℕ). n + 1) l.invariant.count;
      each = subst (λ (all : List PlanSettings). (place : ℕ) → IfSome (slice_get all place) (For place)) (sym c.in_ok-push.ensures.items)
          (each_push For l.each.items settings l.invariant.each (subst (λ (n : ℕ). For n settings) (sym l.invariant.count) c.in_ok-settings.ensures.settings));
    }

use Rattle.std.proofs.Common.{IfSome, Option, subst}
use Rattle.nextest_config_resolution_profiles.specs.HeldRules.{held_row}
use Rattle.test_runner_core_plan.specs.declared.plan_settings.PlanSettings.{PlanSettings}
use Rattle.test_runner_core_planning.specs.Tests.{HasForRow}
use Rattle.test_runner_core_planning.proofs.settled_tests.settings_at.Goals as goal

pub returns-in-Some-clause-settings : goal.returns-in-Some-clause-settings
returns-in-Some-clause-settings c =
    subst (λ (found : Option PlanSettings). IfSome found (HasForRow c.args.profile.now c.args.mode (held_row c.args.place c.args.held.now))) c.in-Some.is
    (c.in_ok-settings.ensures c.args.profile.now c.args.mode c.requires.shared c.requires.counted c.requires.numbered)

use Rattle.std.proofs.Common.{ap, drop, length, refl, ◌∙◌}
use Rattle.nextest_config_resolution_profiles.proofs.Columns.{settings_picked}
use Rattle.nextest_config_resolution_profiles.proofs.evaluatable_profile.EvaluatableProfile.settings_by_rules.Goals as goal
use Rattle.nextest_config_resolution_settings.specs.Nearest.{lent_layers}
use Rattle.nextest_config_resolution_settings.specs.Tracking.{TellsNothing}

pub returns : goal.returns
returns g c =
    settings_picked g.F.Filters.on_test TellsNothing c.args.self.now c.args.mode c.args.row.now (drop (length c.args.self.now.rules) c.args.row.now) (lent_layers c.as_slice.result.now)
    (lent_layers c.as_slice-2.result.now) c.settings_of.result refl (ap lent_layers c.as_slice.ensures.value ∙ c.in_ok-overrides.ensures) (ap lent_layers c.as_slice-2.ensures.value ∙ c.in_ok-scripts.ensures)
    c.settings_of.ensures

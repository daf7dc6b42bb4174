use Rattle.std.proofs.Common.{List, ap, subst, sym}
use Rattle.nextest_config_resolution_overrides.specs.declared.placed_override.PlacedOverride.{PlacedOverride}
use Rattle.nextest_config_resolution_profiles.specs.Finding.{FindsHeld}
use Rattle.nextest_config_resolution_profiles.specs.Held.{Holds}
use Rattle.nextest_config_resolution_profiles.proofs.Holding.{settings_found}
use Rattle.nextest_config_resolution_profiles.proofs.evaluatable_profile.EvaluatableProfile.settings_on.Goals as goal
use Rattle.nextest_config_resolution_scripts.specs.declared.script_rule.PlacedScriptRule.{PlacedScriptRule}
use Rattle.nextest_config_resolution_settings.specs.Nearest.{lent_layers}
use Rattle.nextest_filtering_filters.specs.Query.{test_of}

pub returns : goal.returns
returns g c =
    let profile = c.args.self.now in
    let test = test_of c.args.query.now in
    let OnTest = g.F.Filters.on_test in
    let default = profile.default_filter.filter.now in
    settings_found OnTest g.T.TrackSource.tells profile c.args.mode test c.settings_of.result (lent_layers c.as_slice.result.now) (lent_layers c.as_slice-2.result.now)
    (subst (λ (them : List PlacedOverride). FindsHeld (Holds OnTest default test) profile.rules them) (sym (ap lent_layers c.as_slice.ensures.value)) c.in_ok-held.ensures)
    (subst (λ (them : List PlacedScriptRule). FindsHeld (Holds OnTest default test) profile.script_rules them) (sym (ap lent_layers c.as_slice-2.ensures.value)) c.in_ok-scripts.ensures)
    c.settings_of.ensures

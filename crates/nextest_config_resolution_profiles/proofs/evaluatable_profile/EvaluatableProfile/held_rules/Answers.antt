use Rattle.std.proofs.Common.{List, map, subst}
use Rattle.nextest_config_resolution_overrides.specs.declared.placed_override.PlacedOverride.{PlacedOverride}
use Rattle.nextest_config_resolution_profiles.specs.ChainRules.{seen_rules}
use Rattle.nextest_config_resolution_profiles.specs.Evaluatable.{Evaluatable}
use Rattle.nextest_config_resolution_profiles.specs.HeldRules.{AreColumns, AreHeldColumns}
use Rattle.nextest_config_resolution_profiles.specs.declared.chain_rule.ChainRule.{ChainRule}
use Rattle.nextest_config_resolution_profiles.proofs.evaluatable_profile.EvaluatableProfile.held_rules.Goals as goal
use Rattle.nextest_config_resolution_scripts.specs.declared.script_rule.PlacedScriptRule.{PlacedScriptRule}
use Rattle.nextest_config_resolution_settings.specs.Nearest.{lent_layers}
use Rattle.nextest_filtering_filters.specs.Query.{binary_of}

pub returns : goal.returns
returns g c =
    let OnTest = g.F.Filters.on_test in
    let default = c.self.inside.default_filter.filter.now in
    let binary = binary_of c.args.binary.now in
    let names = lent_layers c.args.names.now in
    let overrides = map (λ column. column.items) c.in_ok-overrides.overrides.items in
    let scripts = map (λ column. column.items) c.in_ok-scripts.scripts.items in
    subst (λ (it : Evaluatable g.row.F.Denot g.row.S.Denot). AreHeldColumns OnTest it binary names (record { overrides = overrides; scripts = scripts })) c.self.view_is
    (record {
      overrides = subst (λ (rules : List (ChainRule PlacedOverride g.row.F.Denot g.row.S.Denot)). AreColumns OnTest default binary names (seen_rules rules) overrides) c.as_slice.ensures.value
          c.in_ok-overrides.ensures;
      scripts = subst (λ (rules : List (ChainRule PlacedScriptRule g.row.F.Denot g.row.S.Denot)). AreColumns OnTest default binary names (seen_rules rules) scripts) c.as_slice-2.ensures.value
          c.in_ok-scripts.ensures;
    })

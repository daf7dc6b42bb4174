use Rattle.std.proofs.Common.{[], List, ◌||◌, ◌∙◌, ap, map}
use Rattle.std.specs.List.{filter_map}
use Rattle.std.proofs.lemmas.Result.{IfOk-weaker}
use Rattle.nextest_config_resolution_profiles.specs.Enabled.{HasEnabled, defined_as, has_name, is_named}
use Rattle.nextest_config_resolution_profiles.specs.Evaluatable.{Evaluatable}
use Rattle.nextest_config_resolution_profiles.proofs.Enabling.{enabled_both, none_enabled, same_names}
use Rattle.nextest_config_resolution_profiles.proofs.evaluatable_profile.EvaluatableProfile.setup_scripts.Goals as goal
use Rattle.nextest_config_resolution_scripts.specs.declared.script_config.NamedScript.{NamedScript}
use Rattle.nextest_config_resolution_scripts.specs.declared.script_rule.PlacedScriptRule.{PlacedScriptRule}
use Rattle.nextest_config_resolution_scripts.specs.declared.setup_script.SetupScriptConfig.{SetupScriptConfig}
use Rattle.nextest_config_resolution_settings.specs.Nearest.{lent_layers}
use Rattle.nextest_filtering_filters.specs.Query.{test_of}

pub returns : goal.returns
returns g c =
    let OnTest = g.F.Filters.on_test in
    let profile = c.args.self.now in
    let matching = map test_of c.args.matching.now in
    let found = c.in_ok-picked.ensures in
    let start = c.new-names.result in
    let names = c.add_all.new.self in
    let has : HasEnabled OnTest profile matching names
    = enabled_both OnTest profile [] matching start names found.row (none_enabled OnTest profile start c.new-names.ensures) found.told
    (λ id. c.in_ok-add_all.ensures id ∙ ap (λ (rules : List PlacedScriptRule). has_name start id || is_named rules id) (ap lent_layers c.as_slice.ensures.value ∙ found.same)) in
    IfOk-weaker c.defined.result _ _ (λ it them. record {
      names = them.names;
      are = same_names them.names has them.are;
      each = them.each ∙ ap (λ (scripts : List (NamedScript SetupScriptConfig)). filter_map (defined_as scripts) them.names)
          (c.as_slice-2.ensures ∙ ap (λ (p : Evaluatable g.row.F.Denot g.row.S.Denot). p.scripts.setup) c.self.view_is);
    }) c.defined.ensures

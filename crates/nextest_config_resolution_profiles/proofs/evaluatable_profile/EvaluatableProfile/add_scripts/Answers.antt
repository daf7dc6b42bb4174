use Rattle.std.proofs.Common.{◌≡◌, Bool, List, ◌||◌, ◌∙◌, ap, map}
use Rattle.std.proofs.lemmas.Result.{on_ok_weaker}
use Rattle.nextest_config_resolution_profiles.specs.ChainRules.{seen_rules}
use Rattle.nextest_config_resolution_profiles.specs.Enabled.{any_in, has_name, is_named, test_in}
use Rattle.nextest_config_resolution_profiles.specs.Evaluatable.{Evaluatable}
use Rattle.nextest_config_resolution_profiles.specs.Held.{placed_of}
use Rattle.nextest_config_resolution_profiles.specs.HeldRules.{rules_at}
use Rattle.nextest_config_resolution_profiles.specs.Platforms.{ScriptRuleOn}
use Rattle.nextest_config_resolution_profiles.proofs.Enabling.{columns_any, enabled_both, told_by_columns}
use Rattle.nextest_config_resolution_profiles.proofs.evaluatable_profile.EvaluatableProfile.add_scripts.Goals as goal
use Rattle.nextest_config_resolution_scripts.specs.declared.script_rule.PlacedScriptRule.{PlacedScriptRule}
use Rattle.nextest_config_resolution_settings.specs.Nearest.{lent_layers}

pub returns : goal.returns
returns g c = λ binary them tests are same has.
    let OnTest = g.F.Filters.on_test in
    let profile = c.args.self.now in
    let count = c.args.count in
    let columns = c.args.held.now.scripts in
    let row = map (any_in count) columns in
    let rules = seen_rules c.as_slice.result.now in
    let row_is : c.as_slice-2.result.now ≡ row
    = c.as_slice-2.ensures.value ∙ c.in_ok-row.ensures ∙ columns_any (λ column. column.items) count c.scripts.result.now ∙ ap (map (any_in count)) c.scripts.ensures in
    let rules_are : rules ≡ profile.script_rules
    = ap seen_rules c.as_slice.ensures.value ∙ ap (λ (p : Evaluatable g.row.F.Denot g.row.S.Denot). p.script_rules) c.self.view_is in
    let found : lent_layers c.as_slice-3.result.now ≡ map placed_of (rules_at row profile.script_rules)
    = ap lent_layers c.as_slice-3.ensures.value ∙ c.in_ok-picked.ensures ∙ ap (λ (values : List Bool). map placed_of (rules_at values rules)) row_is
    ∙ ap (λ (all : List (ScriptRuleOn g.row.F.Denot g.row.S.Denot)). map placed_of (rules_at row all)) rules_are in
    on_ok_weaker c.add_all.result
    (λ adds.
    enabled_both OnTest profile tests (map (test_in binary) them) c.args.names.now c.add_all.new.self row has
    (told_by_columns OnTest profile.default_filter.filter.now binary them profile.script_rules columns count same are.scripts)
    (λ id. adds id ∙ ap (λ (all : List PlacedScriptRule). has_name c.args.names.now id || is_named all id) found))
    c.add_all.ensures

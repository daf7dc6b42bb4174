use Rattle.std.proofs.Common.{Bool, List, ◌∙◌, ap, map, subst}
use Rattle.std.specs.Prelude.{IfOk}
use Rattle.std.proofs.lemmas.Result.{IfOk-weaker}
use Rattle.nextest_config_resolution_profiles.specs.ChainRules.{seen_rules}
use Rattle.nextest_config_resolution_profiles.specs.Enabled.{FindsAsked, HoldsAsked}
use Rattle.nextest_config_resolution_profiles.specs.Evaluatable.{Evaluatable}
use Rattle.nextest_config_resolution_profiles.specs.Held.{placed_of}
use Rattle.nextest_config_resolution_profiles.specs.HeldRules.{IsRowBy, rules_at}
use Rattle.nextest_config_resolution_profiles.specs.declared.chain_rule.ChainRule.{ChainRule}
use Rattle.nextest_config_resolution_profiles.proofs.evaluatable_profile.EvaluatableProfile.script_rules_on.Goals as goal
use Rattle.nextest_config_resolution_scripts.specs.declared.script_rule.PlacedScriptRule.{PlacedScriptRule}
use Rattle.nextest_config_resolution_settings.specs.Nearest.{lent_layers}

pub returns : goal.returns
returns g c =
    let OnTest = g.F.Filters.on_test in
    let OnBinary = g.F.Filters.on_binary in
    let default = c.self.inside.default_filter.filter.now in
    let row = c.in_ok-row.row.items in
    let same = c.as_slice-rules.ensures.value in
    subst (λ (it : Evaluatable g.row.F.Denot g.row.S.Denot). IfOk c.picked_by.result (λ found. FindsAsked OnTest OnBinary it c.args.asked (lent_layers found.items))) c.self.view_is
    (IfOk-weaker c.picked_by.result _ _ (λ found is. record {
      row = row;
      told = subst (λ (rules : List (ChainRule PlacedScriptRule g.row.F.Denot g.row.S.Denot)). IsRowBy (HoldsAsked OnTest OnBinary default c.args.asked) (seen_rules rules) row) same
          c.in_ok-row.ensures;
      same = is ∙ ap (λ (values : List Bool). map placed_of (rules_at values (seen_rules c.as_slice-rules.result.now))) c.as_slice.ensures.value
          ∙ ap (λ (rules : List (ChainRule PlacedScriptRule g.row.F.Denot g.row.S.Denot)). map placed_of (rules_at row (seen_rules rules))) same;
    }) c.picked_by.ensures)

use Rattle.std.proofs.Common.{◌≡◌, List, ap, map, subst, sym, ◌∙◌}
use Rattle.nextest_config_resolution_load.specs.Load.{LoadedOverride, LoadedScriptRule}
use Rattle.nextest_config_resolution_overrides.specs.declared.placed_override.PlacedOverride.{PlacedOverride}
use Rattle.nextest_config_resolution_profiles.specs.Asking.{AreAskable}
use Rattle.nextest_config_resolution_profiles.specs.ChainRules.{rules_in, seen_rules}
use Rattle.nextest_config_resolution_profiles.specs.Early.{Early}
use Rattle.nextest_config_resolution_profiles.specs.Platforms.{IsChosenDefault, built_for, built_on, on_platforms}
use Rattle.nextest_config_resolution_profiles.specs.declared.chain_rule.ChainRule.{ChainRule}
use Rattle.nextest_config_resolution_profiles.proofs.PutOn.{chosen_askable, rules_put, seen_put}
use Rattle.nextest_config_resolution_profiles.proofs.early_profile.EarlyProfile.apply_build_platforms.Goals as goal

pub invariant_of-result : goal.invariant_of-result
invariant_of-result g c =
    let serves = g.F.Filters.serves_as_default in
    let asks = g.F.Filters.asks_groups in
    let early = c.self.inside.default_filter in
    let it = c.chosen_default-default_filter.result in
    let rules = c.put_all_on.new.rules.items in
    let scripts = c.put_all_on-2.new.rules.items in
    let host = built_on c.args.platforms.now in
    let target = built_for c.args.platforms.now in
    let same : rules_in rules ≡ rules_in c.self.inside.rules.items = ap rules_in c.put_all_on.ensures ∙ rules_put g.S.Specs.value_on host target c.self.inside.rules.items in
    let also : rules_in scripts ≡ rules_in c.self.inside.script_rules.items = ap rules_in c.put_all_on-2.ensures ∙ rules_put g.S.Specs.value_on host target c.self.inside.script_rules.items in
    chosen_askable serves asks early it rules (rules_in scripts)
    (subst (λ (them : List (LoadedOverride g.row.F.Denot g.row.S.Denot)). AreAskable serves asks early.filter.now them (rules_in scripts)) (sym same)
    (subst (λ (them : List (LoadedScriptRule g.row.F.Denot g.row.S.Denot)). AreAskable serves asks early.filter.now (rules_in c.self.inside.rules.items) them) (sym also) c.self.invariant))
    (subst (λ (them : List (ChainRule PlacedOverride g.row.F.Denot g.row.S.Denot)). IsChosenDefault early (seen_rules them) it) c.as_slice.ensures.value c.chosen_default-default_filter.ensures)

pub returns : goal.returns
returns g c =
    let host = built_on c.args.platforms.now in
    let target = built_for c.args.platforms.now in
    let same = c.self.view_is in
    let early = c.self.inside.default_filter in
    let it = c.chosen_default-default_filter.result in
    let rules = c.put_all_on.new.rules.items in
    let chosen = subst (λ (them : List (ChainRule PlacedOverride g.row.F.Denot g.row.S.Denot)). IsChosenDefault early (seen_rules them) it) c.as_slice.ensures.value c.chosen_default-default_filter.ensures in
    record {
      name = ap (λ (it : Early g.row.F.Denot g.row.S.Denot). it.name) same;
      store_dir = ap (λ (it : Early g.row.F.Denot g.row.S.Denot). it.store_dir) same;
      chain = ap (λ (it : Early g.row.F.Denot g.row.S.Denot). it.chain) same;
      default_filter = subst (λ (whole : Early g.row.F.Denot g.row.S.Denot). IsChosenDefault whole.default_filter (seen_rules rules) it) same chosen;
      rules = ap seen_rules c.put_all_on.ensures ∙ seen_put g.S.Specs.value_on host target c.self.inside.rules.items
          ∙ ap (λ (it : Early g.row.F.Denot g.row.S.Denot). map (on_platforms g.S.Specs.value_on host target) it.rules) same;
      script_rules = ap seen_rules c.put_all_on-2.ensures ∙ seen_put g.S.Specs.value_on host target c.self.inside.script_rules.items
          ∙ ap (λ (it : Early g.row.F.Denot g.row.S.Denot). map (on_platforms g.S.Specs.value_on host target) it.script_rules) same;
      scripts = ap (λ (it : Early g.row.F.Denot g.row.S.Denot). it.scripts) same;
      groups = ap (λ (it : Early g.row.F.Denot g.row.S.Denot). it.groups) same;
    }

use Rattle.std.proofs.Common.{ap, sym, ◌∙◌, arith, slice_set}
use Rattle.std.proofs.lemmas.List.Edits.{map_over_more}
use Rattle.nextest_config_resolution_profiles.specs.ChainRules.{put_on}
use Rattle.nextest_config_resolution_profiles.specs.Platforms.{built_on, built_for}
use Rattle.nextest_config_resolution_profiles.specs.declared.chain_rule.ChainRule.{ChainRule}
use Rattle.nextest_config_resolution_profiles.proofs.platforms.put_each_on.Goals as goal

pub loop-rule-preserved : goal.loop-rule-preserved
loop-rule-preserved g c =
    let put = put_on {P = g.row.P.Denot} {F = g.row.F.Denot} g.S.Specs.value_on (built_on c.args.platforms.now) (built_for c.args.platforms.now) in
    ap (λ (rule : ChainRule g.row.P.Denot g.row.F.Denot g.row.S.Denot). slice_set c.loop-rule.rules c.loop-rule.rule-index rule) (c.put_on.ensures ∙ ap put (sym c.rule-item.is))
    ∙ map_over_more put c.args.rules.now c.loop-rule.rules c.loop-rule.rule-index c.rule-item.result (omega arith) c.loop-rule.invariant c.rule-item.is

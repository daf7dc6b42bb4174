use Rattle.nextest_config_resolution_profiles.specs.Asking.{IsAskable}
use Rattle.nextest_config_resolution_profiles.specs.Enabled.{HoldsAsked}
use Rattle.nextest_config_resolution_profiles.proofs.Columns.{zipped_more}
use Rattle.nextest_config_resolution_profiles.proofs.PutOn.{item_has}
use Rattle.nextest_config_resolution_profiles.proofs.enabled.asked_of.Goals as goal
use Rattle.nextest_filtering_filters.specs.Meaning.{Tells}

pub holds_asked-requires-clause-askable : goal.holds_asked-requires-clause-askable
holds_asked-requires-clause-askable g c =
    item_has (IsAskable g.F.Filters.serves_as_default g.F.Filters.asks_groups) c.args.rules.now c.loop-rule.rule-index c.rule-item.result c.loop-rule-test.true c.rule-item.is c.requires.askable

pub loop-rule-preserved : goal.loop-rule-preserved
loop-rule-preserved g c =
    zipped_more (λ rule value. Tells (HoldsAsked g.F.Filters.on_test g.F.Filters.on_binary c.args.default.now c.args.asked rule) value) c.args.rules.now c.loop-rule.rule-index c.rule-item.result
    c.loop-rule.row.items c.push.new.self.items c.in_ok-holds_asked.field-0 c.loop-rule-test.true c.rule-item.is c.in_ok-push.ensures.items c.in_ok-holds_asked.ensures c.loop-rule.invariant

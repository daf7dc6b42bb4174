use Rattle.nextest_config_resolution_profiles.specs.Asking.{IsAskable}
use Rattle.nextest_config_resolution_profiles.proofs.Columns.{columns_more}
use Rattle.nextest_config_resolution_profiles.proofs.PutOn.{item_has}
use Rattle.nextest_config_resolution_profiles.proofs.held_rules.columns_of.Goals as goal
use Rattle.nextest_config_resolution_settings.specs.Nearest.{lent_layers}
use Rattle.nextest_filtering_filters.specs.Query.{binary_of}

pub column_of-requires-clause-askable : goal.column_of-requires-clause-askable
column_of-requires-clause-askable g c =
    item_has (IsAskable g.F.Filters.serves_as_default g.F.Filters.asks_groups) c.args.rules.now c.loop-rule.rule-index c.rule-item.result c.loop-rule-test.true c.rule-item.is c.requires.askable

pub loop-rule-preserved : goal.loop-rule-preserved
loop-rule-preserved g c =
    columns_more g.F.Filters.on_test c.args.default.now (binary_of c.args.binary.now) (lent_layers c.args.names.now) (λ column. column.items) c.args.rules.now c.loop-rule.rule-index c.rule-item.result
    c.loop-rule.columns.items c.push.new.self.items c.in_ok-column_of.field-0 c.loop-rule-test.true c.rule-item.is c.in_ok-push.ensures.items c.in_ok-column_of.ensures c.loop-rule.invariant

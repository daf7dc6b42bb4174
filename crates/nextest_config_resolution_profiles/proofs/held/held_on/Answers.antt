use Rattle.std.proofs.Common.{ap}
use Rattle.nextest_config_resolution_profiles.specs.Asking.{IsAskable}
use Rattle.nextest_config_resolution_profiles.specs.Held.{Holds}
use Rattle.nextest_config_resolution_profiles.proofs.Holding.{found_more, found_none}
use Rattle.nextest_config_resolution_profiles.proofs.PutOn.{item_has}
use Rattle.nextest_config_resolution_profiles.proofs.held.held_on.Goals as goal
use Rattle.nextest_config_resolution_settings.specs.Nearest.{lent_layers}
use Rattle.nextest_filtering_filters.specs.Query.{test_of}

pub loop-rule-init : goal.loop-rule-init
loop-rule-init g c = found_none (Holds g.F.Filters.on_test c.args.default.now (test_of c.args.query.now)) (lent_layers c.new-held.result.items) (ap lent_layers c.new-held.ensures.items)

pub push_held-requires-clause-askable : goal.push_held-requires-clause-askable
push_held-requires-clause-askable g c =
    item_has (IsAskable g.F.Filters.serves_as_default g.F.Filters.asks_groups) c.args.rules.now c.loop-rule.rule-index c.rule-item.result c.loop-rule-test.true c.rule-item.is c.requires.askable

pub loop-rule-preserved : goal.loop-rule-preserved
loop-rule-preserved g c =
    found_more (Holds g.F.Filters.on_test c.args.default.now (test_of c.args.query.now)) c.args.rules.now c.loop-rule.rule-index c.rule-item.result (lent_layers c.loop-rule.held.items)
    (lent_layers c.push_held.new.held.items) c.loop-rule-test.true c.rule-item.is c.loop-rule.invariant c.in_ok-push_held.ensures

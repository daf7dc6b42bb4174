use Rattle.nextest_config_resolution_profiles.proofs.Columns.{picked_more}
use Rattle.nextest_config_resolution_profiles.proofs.held_rules.picked_by.Goals as goal
use Rattle.nextest_config_resolution_settings.specs.Nearest.{lent_layers}

pub loop-place-preserved : goal.loop-place-preserved
loop-place-preserved g c =
    picked_more c.args.row.now c.args.rules.now c.loop-place.place c.index-rules-place.result c.value_at.result (lent_layers c.loop-place.held.items) (lent_layers c.push_if.new.held.items) c.loop-place-test.true
    c.index-rules-place.is c.value_at.ensures c.loop-place.invariant c.in_ok-push_if.ensures

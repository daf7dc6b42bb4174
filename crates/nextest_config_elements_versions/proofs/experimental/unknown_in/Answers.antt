use Rattle.nextest_config_elements_versions.proofs.Names.{unknown_more}
use Rattle.nextest_config_elements_versions.proofs.experimental.unknown_in.Goals as goal

pub loop-name-preserved : goal.loop-name-preserved
loop-name-preserved c =
    unknown_more c.args.names.now c.loop-name.name-index c.name-item.result c.as_str.result.now c.loop-name.unknown c.push_unknown.new.unknown
    c.loop-name-test.true c.name-item.is c.as_str.ensures c.loop-name.invariant c.in_ok-push_unknown.ensures

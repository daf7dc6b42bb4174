use Rattle.nextest_config_resolution_load.proofs.Sources.{same_table}
use Rattle.nextest_config_resolution_load.proofs.merging.copied.Goals as goal

pub returns : goal.returns
returns c = same_table _ c.args.table.now c.clone.result c.clone.ensures.cases

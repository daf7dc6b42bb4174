use Rattle.nextest_config_resolution_warnings.proofs.Rules.{has_keys_is}
use Rattle.nextest_config_resolution_warnings.proofs.scripts.has_keys.Goals as goal

pub returns : goal.returns
returns c = has_keys_is c.args.table.now.entries c.is_empty.result c.is_empty.ensures

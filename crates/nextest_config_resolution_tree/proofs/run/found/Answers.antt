use Rattle.nextest_config_resolution_tree.specs.Ends.{ends_of}
use Rattle.nextest_config_resolution_tree.proofs.Keyed.{run_of_key}
use Rattle.nextest_config_resolution_tree.proofs.run.found.Goals as goal

pub returns : goal.returns
returns c = λ e. run_of_key c.args.key.now (ends_of c.args.depth c.args.entries.now) e c.from_key.ensures c.until_after.ensures

use Rattle.nextest_config_resolution_load.proofs.Loads.{merged_files}
use Rattle.nextest_config_resolution_load.proofs.laws.merged_files.Goals as goal

pub returns : goal.returns
returns c = merged_files

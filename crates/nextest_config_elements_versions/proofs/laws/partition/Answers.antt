use Rattle.nextest_config_elements_versions.proofs.Comings.{partition}
use Rattle.nextest_config_elements_versions.proofs.laws.partition.Goals as goal

pub returns : goal.returns
returns c = partition

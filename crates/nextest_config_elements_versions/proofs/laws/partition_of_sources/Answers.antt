use Rattle.nextest_config_elements_versions.proofs.Comings.{partition_of_sources}
use Rattle.nextest_config_elements_versions.proofs.laws.partition_of_sources.Goals as goal

pub returns : goal.returns
returns c = partition_of_sources

use Rattle.nextest_config_elements_versions.proofs.Comings.{associative}
use Rattle.nextest_config_elements_versions.proofs.laws.associative.Goals as goal

pub returns : goal.returns
returns c = associative

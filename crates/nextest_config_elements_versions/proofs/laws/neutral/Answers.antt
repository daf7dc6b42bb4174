use Rattle.nextest_config_elements_versions.proofs.Comings.{neutral}
use Rattle.nextest_config_elements_versions.proofs.laws.neutral.Goals as goal

pub returns : goal.returns
returns c = neutral

use Rattle.nextest_config_elements_versions.proofs.Comings.{one_config}
use Rattle.nextest_config_elements_versions.proofs.laws.one_config.Goals as goal

pub returns : goal.returns
returns c = one_config

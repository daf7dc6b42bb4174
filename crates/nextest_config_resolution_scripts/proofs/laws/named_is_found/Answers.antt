use Rattle.nextest_config_resolution_scripts.proofs.Finding.{named_is_found}
use Rattle.nextest_config_resolution_scripts.proofs.laws.named_is_found.Goals as goal

pub returns : goal.returns
returns g c = named_is_found

use Rattle.nextest_config_elements_versions.proofs.Comings.{comes_in}
use Rattle.nextest_config_elements_versions.proofs.laws.each_comes.Goals as goal

pub returns : goal.returns
returns c = comes_in

use Rattle.std.proofs.Common.{refl}
use Rattle.toml.proofs.OnLiterals.{toml_on_literals}
use Rattle.nextest_config_resolution_profiles.proofs.laws.written_as.Goals as goal

pub returns : goal.returns
unfolding toml_on_literals
returns c = refl

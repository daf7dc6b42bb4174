use Rattle.nextest_config_resolution_load.proofs.SomeLoad.{some_load}
use Rattle.nextest_config_resolution_load.proofs.laws.some_load.Goals as goal

pub returns : goal.returns
returns g c = λ cx. some_load (g.R.Languages.is_filter cx) g.R.Languages.is_spec g.R.Languages.is_too_deep

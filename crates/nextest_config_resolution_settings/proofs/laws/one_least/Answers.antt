use Rattle.nextest_config_resolution_settings.specs.RuleLaws.{Holding}
use Rattle.nextest_config_resolution_settings.proofs.Least.{one_least}
use Rattle.nextest_config_resolution_settings.proofs.laws.one_least.Goals as goal

pub returns : goal.returns
returns g c = λ holds. one_least (Holding holds) g.R.Sets.value

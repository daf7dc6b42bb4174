use Rattle.nextest_config_resolution_settings.specs.RuleLaws.{Holding}
use Rattle.nextest_config_resolution_settings.proofs.Least.{least_is_nearest, nearest_is_least, none_is_least}
use Rattle.nextest_config_resolution_settings.proofs.laws.least_rule.Goals as goal

pub returns-clause-nearest : goal.returns-clause-nearest
returns-clause-nearest g c = λ holds. nearest_is_least (Holding holds) g.R.Sets.value

pub returns-clause-least : goal.returns-clause-least
returns-clause-least g c = λ holds. least_is_nearest (Holding holds) g.R.Sets.value

pub returns-clause-none : goal.returns-clause-none
returns-clause-none g c = λ holds. none_is_least (Holding holds) g.R.Sets.value

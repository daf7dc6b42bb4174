use Rattle.nextest_config_resolution_settings.proofs.Least.{one_held, some_held}
use Rattle.nextest_config_resolution_settings.proofs.laws.held_rules.Goals as goal

pub returns-clause-some : goal.returns-clause-some
returns-clause-some g c = some_held

pub returns-clause-one : goal.returns-clause-one
returns-clause-one g c = one_held

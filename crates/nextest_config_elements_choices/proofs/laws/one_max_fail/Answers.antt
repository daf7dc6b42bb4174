use Rattle.nextest_config_elements_choices.proofs.Limits.{one_max_fail}
use Rattle.nextest_config_elements_choices.proofs.laws.one_max_fail.Goals as goal

pub returns : goal.returns
returns c = one_max_fail

use Rattle.nextest_config_elements_choices.proofs.Limits.{reads_back}
use Rattle.nextest_config_elements_choices.proofs.laws.reads_back.Goals as goal

pub returns : goal.returns
returns c = reads_back

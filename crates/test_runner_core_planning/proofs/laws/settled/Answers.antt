use Rattle.test_runner_core_planning.proofs.Selected.{have_their_settings}
use Rattle.test_runner_core_planning.proofs.laws.settled.Goals as goal

pub returns : goal.returns
returns c = have_their_settings

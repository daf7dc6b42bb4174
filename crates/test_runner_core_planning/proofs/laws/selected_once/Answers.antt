use Rattle.test_runner_core_planning.proofs.NoneTwice.{has_none_twice}
use Rattle.test_runner_core_planning.proofs.laws.selected_once.Goals as goal

pub returns : goal.returns
returns c = has_none_twice

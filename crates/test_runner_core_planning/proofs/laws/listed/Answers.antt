use Rattle.test_runner_core_planning.proofs.Listed.{lists_exactly}
use Rattle.test_runner_core_planning.proofs.laws.listed.Goals as goal

pub returns : goal.returns
returns c = lists_exactly

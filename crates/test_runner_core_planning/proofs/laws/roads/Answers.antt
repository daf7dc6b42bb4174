use Rattle.test_runner_core_planning.proofs.Selected as lemma
use Rattle.test_runner_core_planning.proofs.laws.roads.Goals as goal

pub returns : goal.returns
returns c = lemma.roads

use Rattle.test_runner_core_planning.proofs.OnePlan as lemma
use Rattle.test_runner_core_planning.proofs.laws.not_planned_and_refused.Goals as goal

pub returns : goal.returns
returns c = lemma.not_planned_and_refused

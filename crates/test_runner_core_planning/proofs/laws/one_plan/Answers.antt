use Rattle.test_runner_core_planning.proofs.OnePlan as lemma
use Rattle.test_runner_core_planning.proofs.laws.one_plan.Goals as goal

pub returns : goal.returns
returns c = lemma.one_plan

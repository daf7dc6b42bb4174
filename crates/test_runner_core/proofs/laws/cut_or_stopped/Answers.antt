use Rattle.test_runner_core.proofs.Due as lemma
use Rattle.test_runner_core.proofs.laws.cut_or_stopped.Goals as goal

pub returns : goal.returns
returns c = lemma.ends_no_milder

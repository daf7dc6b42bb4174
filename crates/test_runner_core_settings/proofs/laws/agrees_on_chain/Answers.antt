use Rattle.test_runner_core_settings.proofs.Agreeing as lemma
use Rattle.test_runner_core_settings.proofs.laws.agrees_on_chain.Goals as goal

pub returns : goal.returns
returns c = lemma.agrees_on_chain

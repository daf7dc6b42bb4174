use Rattle.test_runner_core_line_syntax.proofs.Lines as lemma
use Rattle.test_runner_core_line_syntax.proofs.laws.one_event.Goals as goal

pub returns : goal.returns
returns c = lemma.one_event

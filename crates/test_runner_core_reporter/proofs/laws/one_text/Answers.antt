use Rattle.test_runner_core_reporter.proofs.Texts as lemma
use Rattle.test_runner_core_reporter.proofs.laws.one_text.Goals as goal

pub returns : goal.returns
returns c = record { one = lemma.one_text; some = lemma.some_text }

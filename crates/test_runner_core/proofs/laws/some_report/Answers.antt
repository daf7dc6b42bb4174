use Rattle.test_runner_core.proofs.SomeReport as lemma
use Rattle.test_runner_core.proofs.laws.some_report.Goals as goal

pub returns : goal.returns
returns c = lemma.some_report

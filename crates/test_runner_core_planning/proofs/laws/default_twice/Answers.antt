use Rattle.test_runner_core_planning.proofs.DefaultTwice as lemma
use Rattle.test_runner_core_planning.proofs.laws.default_twice.Goals as goal

pub returns-clause-twice : goal.returns-clause-twice
returns-clause-twice c = lemma.default_twice

pub returns-clause-once : goal.returns-clause-once
returns-clause-once c = lemma.default_once

use Rattle.nextest_config_resolution_inheritance.proofs.Verdict.{one_verdict}
use Rattle.nextest_config_resolution_inheritance.proofs.laws.one_verdict.Goals as goal

pub returns : goal.returns
returns c = one_verdict

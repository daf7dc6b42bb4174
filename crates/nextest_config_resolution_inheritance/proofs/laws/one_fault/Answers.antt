use Rattle.nextest_config_resolution_inheritance.proofs.Faults.{one_fault}
use Rattle.nextest_config_resolution_inheritance.proofs.laws.one_fault.Goals as goal

pub returns : goal.returns
returns c = one_fault

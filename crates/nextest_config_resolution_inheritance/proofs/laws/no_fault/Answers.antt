use Rattle.nextest_config_resolution_inheritance.proofs.Faults.{no_fault}
use Rattle.nextest_config_resolution_inheritance.proofs.laws.no_fault.Goals as goal

pub returns : goal.returns
returns c = no_fault

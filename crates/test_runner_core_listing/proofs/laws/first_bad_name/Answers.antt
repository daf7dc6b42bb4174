use Rattle.test_runner_core_listing.proofs.FirstRefusal.{refuses_by_first, accepts_else}
use Rattle.test_runner_core_listing.proofs.laws.first_bad_name.Goals as goal

pub returns-clause-refuses : goal.returns-clause-refuses
returns-clause-refuses c = refuses_by_first

pub returns-clause-accepts : goal.returns-clause-accepts
returns-clause-accepts c = accepts_else

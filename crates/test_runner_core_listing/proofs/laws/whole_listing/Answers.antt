use Rattle.test_runner_core_listing.proofs.WholeListing.{finds_where_accepted, refuses_where_refused}
use Rattle.test_runner_core_listing.proofs.laws.whole_listing.Goals as goal

pub returns-clause-finds : goal.returns-clause-finds
returns-clause-finds c = finds_where_accepted

pub returns-clause-refuses : goal.returns-clause-refuses
returns-clause-refuses c = refuses_where_refused

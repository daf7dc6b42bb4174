use Rattle.nextest_filtering_filters.proofs.Sure.{sure_of_tests}
use Rattle.nextest_filtering_filters.proofs.laws.sure_of_tests.Goals as goal

pub returns : goal.returns
returns g c = sure_of_tests g.G.GroupLookup.member

use Rattle.nextest_filtering_filters.proofs.Sure.{same_without_lookup}
use Rattle.nextest_filtering_filters.proofs.laws.same_without_lookup.Goals as goal

pub returns : goal.returns
returns g c = same_without_lookup g.G.GroupLookup.member

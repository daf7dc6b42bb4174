use Rattle.nextest_filtering_filters.proofs.Sure.{same_without_groups}
use Rattle.nextest_filtering_filters.proofs.laws.same_without_groups.Goals as goal

pub returns : goal.returns
returns g c = same_without_groups g.G.GroupLookup.member g.H.GroupLookup.member

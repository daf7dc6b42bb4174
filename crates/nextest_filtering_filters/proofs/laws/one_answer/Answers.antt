use Rattle.nextest_filtering_filters.proofs.Sure.{one_answer}
use Rattle.nextest_filtering_filters.proofs.laws.one_answer.Goals as goal

pub returns : goal.returns
returns g c = one_answer g.G.GroupLookup.member

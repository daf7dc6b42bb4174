use Rattle.nextest_filtering_compiling.proofs.Trees.{one_meaning}
use Rattle.nextest_filtering_compiling.proofs.laws.one_meaning.Goals as goal

pub returns : goal.returns
returns g c = one_meaning g.G.GroupLookup.member

use Rattle.nextest_filtering_compiling.proofs.Trees.{kept_meaning}
use Rattle.nextest_filtering_compiling.proofs.laws.kept_meaning.Goals as goal

pub returns : goal.returns
returns g c = kept_meaning g.G.GroupLookup.member

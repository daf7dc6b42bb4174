use Rattle.std.proofs.Common.{◌≡◌, take}
use Rattle.nextest_filtering_graph.specs.Making.{lent_pairs}
use Rattle.nextest_filtering_graph.proofs.indexing.owned.Given as goal

abbrev pub invariant-loop-id : goal.invariant-loop-id
invariant-loop-id l = l.copy.items ≡ lent_pairs (take l.id-index l.packages)

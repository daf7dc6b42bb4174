use Rattle.std.proofs.Common.{◌≡◌, take, false}
use Rattle.nextest_filtering_graph.specs.Graph.{IsIndex, ids, has_repeat}
use Rattle.nextest_filtering_graph.specs.Making.{lent_pairs}
use Rattle.nextest_filtering_graph.proofs.indexing.index_of.Given as goal

abbrev pub invariant-loop-place : goal.invariant-loop-place
invariant-loop-place l = record {
  index : IsIndex l.index (ids (lent_pairs (take l.place l.packages)));
  once : has_repeat (ids (lent_pairs (take l.place l.packages))) ≡ false;
}

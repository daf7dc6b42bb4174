use Rattle.std.proofs.Common.{◌≡◌, ℕ, List, Some, map, take}
use Rattle.nextest_filtering_graph.specs.Graph.{IsIndex, places_of_link}
use Rattle.nextest_filtering_graph.specs.Making.{lent_pairs}
use Rattle.nextest_filtering_graph.proofs.indexing.placed_links.Given as goal

abbrev pub invariant-loop-from : goal.invariant-loop-from
invariant-loop-from l = (known : List (List ℕ)) → IsIndex l.index known → map Some l.places.items ≡ map (places_of_link known) (lent_pairs (take l.from-index l.links))

use Rattle.nextest_filtering_graph.specs.Graph.{ids}
use Rattle.nextest_filtering_graph.specs.Making.{lent_pairs}
use Rattle.nextest_filtering_graph.proofs.Places.{graph_holds}
use Rattle.nextest_filtering_graph.proofs.graph.PackageGraph.new.Goals as goal

pub invariant_of-result : goal.invariant_of-result
invariant_of-result c =
    graph_holds c.in_ok-index.index (lent_pairs c.args.packages.now) (lent_pairs c.args.links.now) c.in_ok-owned.field-0.items c.in_ok-places.places.items
    c.in_ok-index.ensures.0 c.in_ok-index.ensures.1 c.in_ok-owned.ensures (c.in_ok-places.ensures (ids (lent_pairs c.args.packages.now)) c.in_ok-index.ensures.0)

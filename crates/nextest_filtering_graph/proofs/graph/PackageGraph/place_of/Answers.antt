use Rattle.std.proofs.Common.{◌∙◌}
use Rattle.nextest_filtering_graph.proofs.Places.{place_within}
use Rattle.nextest_filtering_graph.proofs.graph.PackageGraph.place_of.Goals as goal

pub returns-clause-below : goal.returns-clause-below
returns-clause-below c =
    rw (← c.self.view_is) (place_within c.self.inside.packages.items c.args.id.now c.copied.result (c.copied.ensures ∙ c.get.ensures.value ∙ c.self.invariant.0 c.args.id.now))

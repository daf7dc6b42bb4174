use Rattle.std.proofs.Common.{◌≡◌, take}
use Rattle.nextest_filtering_graph.specs.Making.{lent_pairs}
use Rattle.test_runner_core_planning.specs.Filtering.{pairs_of_links}
use Rattle.test_runner_core_planning.proofs.filtering.link_pairs.Given as goal

abbrev pub invariant-loop-link : goal.invariant-loop-link
invariant-loop-link l = lent_pairs l.pairs.items ≡ pairs_of_links (take l.link-index l.links)

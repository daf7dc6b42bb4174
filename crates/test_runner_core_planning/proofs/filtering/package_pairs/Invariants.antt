use Rattle.std.proofs.Common.{◌≡◌, take}
use Rattle.nextest_filtering_graph.specs.Making.{lent_pairs}
use Rattle.test_runner_core_planning.specs.Filtering.{pairs_of_packages}
use Rattle.test_runner_core_planning.proofs.filtering.package_pairs.Given as goal

abbrev pub invariant-loop-package : goal.invariant-loop-package
invariant-loop-package l = lent_pairs l.pairs.items ≡ pairs_of_packages (take l.package-index l.packages)

use Rattle.std.proofs.Common.{◌≡◌, take}
use Rattle.test_runner_core_planning.specs.Filtering.{pairs_of_binaries}
use Rattle.test_runner_core_planning.proofs.filtering.binary_pairs.Given as goal

abbrev pub invariant-loop-binary : goal.invariant-loop-binary
invariant-loop-binary l = l.pairs.items ≡ pairs_of_binaries (take l.binary-index l.binaries)

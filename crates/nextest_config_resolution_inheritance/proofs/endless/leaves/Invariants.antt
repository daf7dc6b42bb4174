use Rattle.std.proofs.Common.{◌≡◌, length}
use Rattle.nextest_config_resolution_inheritance.proofs.Walks.{Walking, unvisited}
use Rattle.nextest_config_resolution_inheritance.proofs.endless.leaves.Given as goal

abbrev pub invariant-loop-place : goal.invariant-loop-place
invariant-loop-place l = (l.end ≡ length l.parents) × Walking l.parents l.start l.walks l.place

abbrev pub decreases-loop-place : goal.decreases-loop-place
decreases-loop-place l = unvisited l.parents l.walks

use Rattle.std.proofs.Common.{ℕ, ◌≡◌, ◌<◌, length}
use Rattle.nextest_config_resolution_inheritance.specs.Places.{AreKnown, Leaves}
use Rattle.nextest_config_resolution_inheritance.proofs.endless.first_endless.Given as goal

abbrev pub invariant-loop-start : goal.invariant-loop-start
invariant-loop-start l = (length l.walks ≡ length l.parents) × AreKnown l.parents l.walks l.start × ((k : ℕ) → k < l.start → Leaves l.parents k)

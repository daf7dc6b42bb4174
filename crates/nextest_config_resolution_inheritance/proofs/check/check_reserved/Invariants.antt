use Rattle.std.proofs.Common.{ℕ, ◌<◌}
use Rattle.nextest_config_resolution_inheritance.specs.Inheritance.{SetsNoneIfReserved, profile_at}
use Rattle.nextest_config_resolution_inheritance.specs.Inherits.{parents_in}
use Rattle.nextest_config_resolution_inheritance.proofs.check.check_reserved.Given as goal

abbrev pub invariant-loop-profile : goal.invariant-loop-profile
invariant-loop-profile g l = (k : ℕ) → k < l.profile-index → SetsNoneIfReserved (profile_at (parents_in g.P.Inherits.name_of g.P.Inherits.parent_of l.profiles) k)

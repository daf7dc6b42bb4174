use Rattle.std.proofs.Common.{◌-◌, length}
use Rattle.nextest_config_resolution_inheritance.specs.Inherits.{parents_in}
use Rattle.nextest_config_resolution_inheritance.proofs.Climbing.{Climbing}
use Rattle.nextest_config_resolution_inheritance.proofs.chain.chain_of.Given as goal

abbrev pub invariant-loop-chain : goal.invariant-loop-chain
invariant-loop-chain g l = Climbing (parents_in g.P.Inherits.name_of g.P.Inherits.parent_of l.profiles) l.place l.chain.items l.here

abbrev pub decreases-loop-chain : goal.decreases-loop-chain
decreases-loop-chain g l = length l.profiles - length l.chain.items

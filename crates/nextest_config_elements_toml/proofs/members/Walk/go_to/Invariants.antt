use Rattle.std.proofs.Common.{List, length}
use Rattle.nextest_config_elements_toml.specs.Walks.{Entry, IsWalk, ahead}
use Rattle.nextest_config_elements_toml.proofs.members.Walk.go_to.Given as goal

-- it is a walk over what it was one over
abbrev pub invariant-loop-self : goal.invariant-loop-self
invariant-loop-self l = (all : List Entry) → IsWalk all l.initial.self → IsWalk all l.self

-- how many members are ahead
abbrev pub decreases-loop-self : goal.decreases-loop-self
decreases-loop-self l = length (ahead l.self.next l.self.rest)

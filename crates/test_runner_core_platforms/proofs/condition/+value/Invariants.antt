use Rattle.std.proofs.Common.{◌+◌, ◌*◌, length}
use Rattle.test_runner_core_platforms.proofs.Evaluating.{Apart, Down}
use Rattle.test_runner_core_platforms.proofs.condition.+value.Given as goal

abbrev pub decreases-apart : goal.decreases-apart
decreases-apart l = 3 * length l.parts.now + 3

abbrev pub decreases-leads : goal.decreases-leads
decreases-leads l = 3 * length l.parts.now + 1

abbrev pub decreases-value : goal.decreases-value
decreases-value l = 3 * length l.parts.now + 2

-- the conditions behind the rest come to what was found, with the largest of them
abbrev pub invariant-apart-loop-rest : goal.invariant-apart-loop-rest
invariant-apart-loop-rest l = Apart l.joint l.facts.known l.parts l.rest l.found l.largest

abbrev pub decreases-apart-loop-rest : goal.decreases-apart-loop-rest
decreases-apart-loop-rest l = length l.rest

-- the value of all is told by that of the rest
abbrev pub invariant-value-loop-value : goal.invariant-value-loop-value
invariant-value-loop-value l = Down l.facts.known l.parts l.outcomes l.rest

abbrev pub decreases-value-loop-value : goal.decreases-value-loop-value
decreases-value-loop-value l = length l.rest

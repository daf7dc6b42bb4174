use Rattle.std.proofs.Common.{◌≡◌, length}
use denote.Text.{Utf8}
use denote.Shadow.{shadow}
use Rattle.nextest_filtering_arguments.specs.Faults.{count}
use Rattle.nextest_filtering_syntax.proofs.Steps.{HasAscended}
use Rattle.nextest_filtering_syntax.proofs.parser.ascend.Given as goal

-- expressions in parentheses were read up to this operand
abbrev pub invariant-loop-behind : goal.invariant-loop-behind
invariant-loop-behind l = shadow (Utf8 l.rest) × (l.faults.input ≡ l.fn.faults.input)
    × HasAscended l.fn.stack l.fn.tree l.fn.text l.stack l.operand l.rest (count l.fn.faults) (count l.faults)

abbrev pub decreases-loop-behind : goal.decreases-loop-behind
decreases-loop-behind l = length l.stack

use Rattle.std.proofs.Common.{◌≡◌, length}
use denote.Text.{Utf8}
use denote.Shadow.{shadow}
use Rattle.nextest_filtering_arguments.specs.Faults.{count}
use Rattle.nextest_filtering_syntax.proofs.Expressions.{HasRead}
use Rattle.nextest_filtering_syntax.proofs.parser.expression.Given as goal

-- the text was read up to where an operand is to follow
abbrev pub invariant-loop-stack : goal.invariant-loop-stack
invariant-loop-stack l = shadow (Utf8 l.rest) × (l.faults.input ≡ l.fn.faults.input)
    × HasRead l.fn.faults.input l.fn.text l.stack l.rest (count l.fn.faults) (count l.faults)

abbrev pub decreases-loop-stack : goal.decreases-loop-stack
decreases-loop-stack l = length l.rest

use Rattle.std.proofs.Common.{length}
use Rattle.test_runner_core_platforms.specs.Waiting.{IsAt, text_of}
use Rattle.test_runner_core_platforms.proofs.parser.condition.Given as goal

-- the text was read up to this place
abbrev pub invariant-loop-place : goal.invariant-loop-place
invariant-loop-place l = IsAt l.fn.text l.reading l.place

abbrev pub decreases-loop-place : goal.decreases-loop-place
decreases-loop-place l = length (text_of l.place)

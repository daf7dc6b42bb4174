use Rattle.std.proofs.Common.{length}
use Rattle.test_runner_core_line_syntax.proofs.Hex.{TextAhead}
use Rattle.test_runner_core_line_syntax.proofs.message.is_text.Given as goal

abbrev pub invariant-loop-rest : goal.invariant-loop-rest
invariant-loop-rest l = TextAhead l.digits l.rest l.first l.second l.third

abbrev pub decreases-loop-rest : goal.decreases-loop-rest
decreases-loop-rest l = length l.rest

use Rattle.std.proofs.Common.{take}
use Rattle.test_runner_core_platforms.specs.Grammar.{AllAre}
use Rattle.test_runner_core_platforms.specs.Parsing.{is_in}
use Rattle.test_runner_core_platforms.proofs.span.Span.len_in.Given as goal

abbrev pub invariant-loop-index : goal.invariant-loop-index
invariant-loop-index l = AllAre (is_in l.self) (take l.index l.text)

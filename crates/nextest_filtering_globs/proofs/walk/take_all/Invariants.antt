use Rattle.std.proofs.Common.{drop}
use Rattle.nextest_filtering_globs.proofs.Walks.{Walked}
use Rattle.nextest_filtering_globs.proofs.walk.take_all.Given as goal

abbrev pub invariant-loop-token : goal.invariant-loop-token
invariant-loop-token l = Walked l.text l.tokens l.initial.current (drop l.token-index l.tokens) l.current l.stack.items

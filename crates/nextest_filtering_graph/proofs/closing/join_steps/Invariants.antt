use Rattle.std.proofs.Common.{ℕ, List}
use Rattle.nextest_filtering_graph.specs.Rows.{AreRows}
use Rattle.nextest_filtering_graph.proofs.closing.join_steps.Given as goal

abbrev pub invariant-loop-from : goal.invariant-loop-from
invariant-loop-from l = (links : List (ℕ × ℕ)) → AreRows links l.width l.count l.fn.words → AreRows links l.width l.count l.words

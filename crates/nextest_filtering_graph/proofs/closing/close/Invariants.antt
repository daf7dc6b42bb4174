use Rattle.std.proofs.Common.{◌*◌, ◌-◌, ◌^◌, length, sum}
use Rattle.nextest_filtering_graph.specs.Rows.{AreRows}
use Rattle.nextest_filtering_graph.proofs.closing.close.Given as goal

abbrev pub invariant-loop : goal.invariant-loop
invariant-loop l = AreRows l.links l.width l.count l.words

abbrev pub decreases-loop : goal.decreases-loop
decreases-loop l = length l.words * 2 ^ 64 - sum l.words

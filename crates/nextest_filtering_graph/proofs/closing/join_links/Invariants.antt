use Rattle.std.proofs.Common.{◌≡◌, ◌<◌, sum, take, true, false}
use Rattle.nextest_filtering_graph.specs.Rows.{AreRows, AreClosed}
use Rattle.nextest_filtering_graph.proofs.closing.join_links.Given as goal

abbrev pub invariant-loop-from : goal.invariant-loop-from
invariant-loop-from l = record {
  rows : AreRows l.links l.width l.count l.words;
  closed : l.is_changed ≡ false → AreClosed (take l.from-index l.links) l.width l.count l.words;
  kept : l.is_changed ≡ false → l.words ≡ l.fn.words;
  grown : l.is_changed ≡ true → sum l.fn.words < sum l.words;
}

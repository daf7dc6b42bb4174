use Rattle.std.proofs.Common.{◌≡◌, ℕ, ◌*◌, ◌<◌, length}
use Rattle.nextest_filtering_graph.specs.Rows.{HasBit}
use Rattle.nextest_filtering_graph.proofs.closing.rows_of_places.Given as goal

abbrev pub invariant-loop-place : goal.invariant-loop-place
invariant-loop-place l = record {
  sized : length l.words.items ≡ l.count * l.width;
  only : (i j : ℕ) → j < 64 * l.width → HasBit l.words.items l.width i j → i ≡ j;
  stays : (i : ℕ) → i < l.place → HasBit l.words.items l.width i i;
}

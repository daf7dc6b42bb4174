use Rattle.std.proofs.Common.{◌≡◌, ℕ, ◌+◌, ◌*◌, ◌<◌, ◌≢◌, sum, true, false, get_or}
use Rattle.std.specs.Prelude.{bit_or}
use Rattle.nextest_filtering_graph.proofs.bits.join_rows.Given as goal

abbrev pub invariant-loop-word : goal.invariant-loop-word
invariant-loop-word l = record {
  joined : (k : ℕ) → k < l.word → get_or l.words (l.from * l.width + k) 0 ≡ bit_or (get_or l.fn.words (l.from * l.width + k) 0) (get_or l.fn.words (l.to * l.width + k) 0);
  others : (place : ℕ) → ((k : ℕ) → k < l.word → place ≢ l.from * l.width + k) → get_or l.words place 0 ≡ get_or l.fn.words place 0;
  kept : l.is_changed ≡ false → l.words ≡ l.fn.words;
  grown : l.is_changed ≡ true → sum l.fn.words < sum l.words;
}

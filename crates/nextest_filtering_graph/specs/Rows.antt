-- Rows of bits in a list of words of 64 bits.
use Rattle.std.specs.Prelude.{◌≡◌, ℕ, ◌+◌, ◌*◌, ◌/◌, ◌%◌, ◌<◌, ◌≤◌, ◌↔◌, List, length, slice_index}
use Rattle.std.specs.Int.{bit_at}
use Rattle.nextest_filtering_graph.specs.Reaching.{IsLink, Reaches}

-- bit j of row i is set, where a row has `width` words
unfoldable pub HasBit : List ℕ → ℕ → ℕ → ℕ → Type 0
HasBit words width i j = bit_at (slice_index words (i * width + j / 64)) (j % 64) ≡ 1

-- rows for `count` places whose bits say only what is so, and of each place that it reaches itself
pub record AreRows (links : List (ℕ × ℕ)) (width count : ℕ) (words : List ℕ) : Type 0 where
  pub sized : length words ≡ count * width
  pub room : count ≤ 64 * width
  pub sound : (i j : ℕ) → i < count → j < count → HasBit words width i j → Reaches links i j
  pub stays : (i : ℕ) → i < count → HasBit words width i i

-- a row has the bits of each row that a link leads to
abbrev pub AreClosed : List (ℕ × ℕ) → ℕ → ℕ → List ℕ → Type 0
AreClosed links width count words =
    (i j k : ℕ) → IsLink links i j → k < count → HasBit words width j k → HasBit words width i k

-- the bits say exactly what each place reaches
abbrev pub AreReached : List (ℕ × ℕ) → ℕ → ℕ → List ℕ → Type 0
AreReached links width count words =
    (i j : ℕ) → i < count → j < count → HasBit words width i j ↔ Reaches links i j

use Rattle.std.proofs.Common.{◌≡◌, ℕ, ◌+◌, ◌^◌, ◌<◌, length}
use Rattle.nextest_config_elements_values.specs.Ahead.{Reads}
use Rattle.nextest_config_elements_values.proofs.parse.sum_of_parts.Given as goal

-- the sum so far fits, and what the text reads is the sum so far and what is left reads
abbrev pub invariant-loop-rest : goal.invariant-loop-rest
invariant-loop-rest l = record {
  more : (left : ℕ) → Reads l.rest left → Reads l.text (l.sum + left);
  fits : l.sum < 2 ^ 64;
  less : (nanos : ℕ) → Reads l.text nanos → (left : ℕ) × (nanos ≡ l.sum + left) × Reads l.rest left;
}

abbrev pub decreases-loop-rest : goal.decreases-loop-rest
decreases-loop-rest l = length l.rest

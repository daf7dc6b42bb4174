-- What a loop over the columns of rules makes of the numbers of rows.
use Rattle.std.specs.Prelude.{◌≡◌, ℕ, zero, suc, ◌+◌, ◌^◌, ◌%◌, Bool, List, if◌then◌else◌, length}
use Rattle.nextest_config_resolution_profiles.specs.HeldRules.{AreNumbers, next_weight, row_at}

-- the weight of the rule that stands so many places behind it
abbrev pub weight_behind : ℕ → ℕ → ℕ
weight_behind weight zero = weight
weight_behind weight (suc count) = weight_behind (next_weight weight) count

-- the number of a row with one more rule, of this weight
abbrev pub number_with : ℕ → Bool → ℕ → ℕ
number_with weight holds number = if holds then (number + weight) % 2 ^ 64 else number

-- what a loop over columns has made: numbers of what those so far say, and the weight of the rule behind them
pub record AreCarried (columns : List (List Bool)) (count weight : ℕ) (carried : List ℕ) : Type 0 where
  pub numbers : AreNumbers (λ place. row_at place columns) count carried
  pub weighs : weight ≡ weight_behind 1 (length columns)

-- Line feeds in bytes.
use Rattle.std.specs.Prelude.{◌≡◌, ◌≢◌, ℕ, ◌+◌, ◌<◌, ◌==◌, Bool, List, ◌∷◌, Option, None, Some, length, take, drop}
use Rattle.std.specs.List.{AllByRecursion, list_any, before_first, after_first}

-- no line feed stands in the bytes
abbrev pub IsPlain : List ℕ → Type 0
IsPlain = AllByRecursion (λ byte. byte ≢ 10)

-- whether a line feed stands in the bytes
abbrev pub has_feed : List ℕ → Bool
has_feed = list_any (λ byte. byte == 10)

-- the first line feed stands at a place, or nowhere
abbrev pub IsFirstFeed : List ℕ → Option ℕ → Type 0
IsFirstFeed bytes None = IsPlain bytes
IsFirstFeed bytes (Some at) = (at < length bytes) × IsPlain (take at bytes) × (drop at bytes ≡ 10 ∷ drop (at + 1) bytes)

-- what stands before the first line feed, which is all where there is none, and what stands behind
-- it
abbrev pub before_feed : List ℕ → List ℕ
before_feed = before_first (λ byte. byte == 10)

abbrev pub behind_feed : List ℕ → List ℕ
behind_feed = after_first (λ byte. byte == 10)

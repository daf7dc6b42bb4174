-- The bytes that a reader may give from here on.
use Rattle.std.specs.Prelude.{◌≡◌, ℕ, List, Option, None, Some, ⊤}

-- a reader may give these bytes: just those that it has left where they are known, else any
abbrev pub MayGive : Option (List ℕ) → List ℕ → Type 0
MayGive None bytes = ⊤
MayGive (Some left) bytes = bytes ≡ left

-- it holds of bytes that a reader may give: of those that it has left where they are known, else of
-- some bytes
abbrev pub OfBytes : Option (List ℕ) → (List ℕ → Type 0) → Type 0
OfBytes left Holds = (bytes : List ℕ) × MayGive left bytes × Holds bytes

-- whatever a reader may give after a call, it holds of bytes that it may have given before it, and
-- of those
abbrev pub WhateverFollows : Option (List ℕ) → Option (List ℕ) → (List ℕ → List ℕ → Type 0) → Type 0
WhateverFollows left rest Holds = (behind : List ℕ) → MayGive rest behind → OfBytes left (λ ahead. Holds ahead behind)

-- it holds of bytes that a reader may have given before a call, and of some that it may give after
-- it
abbrev pub OfSomeBytes : Option (List ℕ) → Option (List ℕ) → (List ℕ → List ℕ → Type 0) → Type 0
OfSomeBytes left rest Holds = OfBytes rest (λ behind. OfBytes left (λ ahead. Holds ahead behind))

-- Parts of a text.
use Rattle.std.specs.Prelude.{◌≡◌, ◌≤◌, ◌-◌, ℕ, List, map, take, drop, IsCharBoundary}
use Rattle.std.specs.Borrow.{Bor}

-- the bytes from a place up to another
abbrev pub part_of : List ℕ → ℕ → ℕ → List ℕ
part_of bytes start end = take (end - start) (drop start bytes)

-- a text may be cut at these places
abbrev pub IsPart : List ℕ → ℕ → ℕ → Type 0
IsPart bytes start end = (start ≤ end) × IsCharBoundary bytes start × IsCharBoundary bytes end

-- this is left of a text from a place on, where it may be cut
pub record IsLeft (whole : List ℕ) (start : ℕ) (left : List ℕ) : Type 0 where
  pub cut : IsCharBoundary whole start
  pub behind : drop start whole ≡ left

-- lent texts, each as its bytes
abbrev pub lent_texts : List (Bor (List ℕ)) → List (List ℕ)
lent_texts texts = map (λ text. text.now) texts

-- Which places reach which by links.
use Rattle.std.specs.Prelude.{ℕ, ◌<◌, List, Contains, All}

-- a link leads from one place to another
abbrev pub IsLink : List (ℕ × ℕ) → ℕ → ℕ → Type 0
IsLink links from to = Contains links (from, to)

-- a place reaches another by a path of links, perhaps an empty one
pub data Reaches (links : List (ℕ × ℕ)) : ℕ → ℕ → Type 0 where
  stay : (i : ℕ) → Reaches links i i
  onward : (i j k : ℕ) → IsLink links i j → Reaches links j k → Reaches links i k

-- each link's ends lie below the number of places
abbrev pub LinksBelow : ℕ → List (ℕ × ℕ) → Type 0
LinksBelow count links = All (λ link. (link.0 < count) × (link.1 < count)) links

-- places from 0 up to a number, and the links between them
pub record LinkedPlaces : Type 0 where
  pub count : ℕ
  pub links : List (ℕ × ℕ)

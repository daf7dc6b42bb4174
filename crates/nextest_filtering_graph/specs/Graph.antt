-- Packages and the links between them.
use Rattle.std.specs.Prelude.{◌≡◌, ℕ, List, [], ◌∷◌, Bool, false, ◌||◌, Option, None, Some, String, map}
use Rattle.std.specs.List.{list_any, position_from}
use Rattle.std.specs.Str.{bytes_eq}
use Rattle.std.specs.BTreeMap.{BTreeMap, get_by_text}

-- packages, each by its id and its name, and links, each from a package's place to a package's
-- place
pub record Graph : Type 0 where
  pub packages : List (List ℕ × List ℕ)
  pub links : List (ℕ × ℕ)

abbrev pub ids : List (List ℕ × List ℕ) → List (List ℕ)
ids packages = map (λ it. it.0) packages

-- the place of the first id that is this one
abbrev pub place_of : List (List ℕ) → List ℕ → Option ℕ
place_of known id = position_from (bytes_eq id) 0 known

-- an id stands twice
abbrev pub has_repeat : List (List ℕ) → Bool
has_repeat [] = false
has_repeat (id ∷ known) = list_any (bytes_eq id) known || has_repeat known

abbrev pub both : Option ℕ → Option ℕ → Option (ℕ × ℕ)
both (Some from) (Some to) = Some (from, to)
both (Some from) None = None
both None to = None

-- a link by the places of its ends, where both are known
abbrev pub places_of_link : List (List ℕ) → List ℕ × List ℕ → Option (ℕ × ℕ)
places_of_link known link = both (place_of known link.0) (place_of known link.1)

-- an index leads from each id to its place
abbrev pub IsIndex : {Y : Type 0} → BTreeMap (String Y) ℕ → List (List ℕ) → Type 0
IsIndex index known = (id : List ℕ) → get_by_text index id ≡ place_of known id

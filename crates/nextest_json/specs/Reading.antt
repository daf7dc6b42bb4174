-- How parts are read: in the written order, up to the first that is missing, ill-typed or not
-- allowed.
use Rattle.std.specs.Prelude.{ℕ, ◌+◌, List, [], ◌∷◌, Option, None, Ok, Err, decimal, is_some, if◌then◌else◌}
use Rattle.std.specs.Option.{option_map_or}
use Rattle.serde_json.specs.Data.{Data}
use Rattle.serde_json.specs.Find.{as_object, as_str, get}
pub use Rattle.nextest_text.specs.Reading.{Path, Reading, ◌>>=◌, under, leaf, some}
use Rattle.nextest_json.specs.Listed.{items}
use Rattle.nextest_json.specs.Parts.{member, item_at, word}

-- a text
abbrev pub text : Data → Reading (List ℕ)
text = leaf as_str

-- a member that must stand
abbrev pub required : {A : Type 0} → List ℕ → (Data → Reading A) → Data → Reading A
required name reads given = under name (option_map_or reads (member name given) (Err []))

-- a member that may be absent
abbrev pub optional : {A : Type 0} → List ℕ → (Data → Reading A) → Data → Reading (Option A)
optional name reads given = under name (option_map_or (λ part. some (reads part)) (member name given) (Ok None))

-- a member that may be absent, for which something else then stands
abbrev pub defaulted : {A : Type 0} → List ℕ → (Data → Reading A) → A → Data → Reading A
defaulted name reads otherwise given = under name (option_map_or reads (member name given) (Ok otherwise))

-- what the word of a member tells to read
abbrev pub by_word : {A : Type 0} → List ℕ → (List ℕ → Data → Reading A) → Data → Reading A
by_word name reads given = option_map_or (λ told. reads told given) (word name given) (Err (name ∷ []))

-- the item at a position
abbrev pub element : {A : Type 0} → ℕ → (Data → Reading A) → Data → Reading A
element position reads given = under (decimal position) (option_map_or reads (item_at position given) (Err []))

-- the items in their order, from a position on
abbrev pub each : {A : Type 0} → (Data → Reading A) → ℕ → List Data → Reading (List A)
each reads position [] = Ok []
each reads position (given ∷ more) = do
  first ← under (decimal position) (reads given)
  rest ← each reads (position + 1) more
  Ok (first ∷ rest)

-- a list of such
abbrev pub list : {A : Type 0} → (Data → Reading A) → Data → Reading (List A)
list reads given = option_map_or (each reads 0) (items given) (Err [])

-- a member that is a list, or absent, which is an empty list; null is no list
abbrev pub listed_member : {A : Type 0} → List ℕ → (Data → Reading A) → Data → Reading (List A)
listed_member name reads given = under name (option_map_or (list reads) (get name given) (Ok []))

-- an object, whose parts are read
abbrev pub object : {A : Type 0} → (Data → Reading A) → Data → Reading A
object reads given = if is_some (as_object given) then reads given else Err []

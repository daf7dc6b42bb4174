-- How the values of tables are read: key by key, by the bytes of the keys, up to the first that is
-- none.
use Rattle.std.specs.Prelude.{ℕ, ◌+◌, List, [], ◌∷◌, Option, None, Ok, Err, decimal}
use Rattle.std.specs.Option.{option_map_or}
use Rattle.toml.specs.Data.{Data, Items, no_items, item, Members, as_str, get_member}
pub use Rattle.nextest_text.specs.Reading.{Path, Reading, ◌>>=◌, under, leaf, some}

-- the value of a key that must stand
abbrev pub required : {A : Type 0} → List ℕ → (Data → Option A) → Members → Reading A
required key value members = under key (option_map_or (leaf value) (get_member key members) (Err []))

-- the value of a key that may be left out
abbrev pub optional : {A : Type 0} → List ℕ → (Data → Option A) → Members → Reading (Option A)
optional key value members = under key (option_map_or (λ given. some (leaf value given)) (get_member key members) (Ok None))

-- the value of a key for which something else stands where it is left out
abbrev pub defaulted : {A : Type 0} → List ℕ → (Data → Option A) → A → Members → Reading A
defaulted key value otherwise members = under key (option_map_or (leaf value) (get_member key members) (Ok otherwise))

-- each item of a list is a text
abbrev pub texts_in : ℕ → Items → Reading (List (List ℕ))
texts_in position no_items = Ok []
texts_in position (item given more) = do
  text ← under (decimal position) (leaf as_str given)
  texts ← texts_in (position + 1) more
  Ok (text ∷ texts)

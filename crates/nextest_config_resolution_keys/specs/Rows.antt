-- What a table is refused for by several keys, and where they stand in it.
use Rattle.std.specs.Prelude.{◌≡◌, ⊤, List, [], ◌∷◌, Option, None, Some, Ok, Err, if◌then◌else◌}
use Rattle.std.specs.Option.{option_or}
use Rattle.std.specs.Str.{bytes_eq}
use Rattle.std.specs.Cmp.Lexicographic.{slice_cmp}
use Rattle.std.specs.Ordering.{nat_cmp, match_ordering}
use Rattle.toml.specs.Data.{Members}
use Rattle.nextest_config_elements_toml.specs.Reading.{Path, Reading}
use Rattle.nextest_config_elements_toml.specs.declared.value_error.ValueError.{ValueError}
use Rattle.nextest_config_elements_toml.specs.declared.value_error.ValueError.TheVariants as error
use Rattle.nextest_config_resolution_keys.specs.Keys.{Key, value_of}
use Rattle.nextest_config_resolution_keys.specs.declared.known.Known.{Known}
use Rattle.nextest_config_resolution_keys.specs.declared.known.Known.TheVariants as there

-- where the first thing stands that a reading refuses, if it refuses one
abbrev pub refusal_of : {A : Type 0} → Reading A → Option Path
refusal_of (Ok x) = None
refusal_of (Err path) = Some path

-- of two paths the one that comes first, key by key by their bytes
abbrev pub least : Path → Path → Path
least one other = match_ordering (slice_cmp (slice_cmp nat_cmp) one other) one one other

abbrev pub least_of : Option Path → Option Path → Option Path
least_of None other = other
least_of (Some one) None = Some one
least_of (Some one) (Some other) = Some (least one other)

-- two readings of one table: what both give, or the first place at which one of them refuses
abbrev pub joined : {A B : Type 0} → Reading A → Reading B → Reading (A × B)
joined (Ok x) (Ok y) = Ok (x, y)
joined (Ok x) (Err path) = Err path
joined (Err path) (Ok y) = Err path
joined (Err one) (Err other) = Err (least one other)

-- what a key reads, and what others read; and no key reads anything
abbrev pub both : {A B : Type 0} → (Members → Reading A) → (Members → Reading B) → Members → Reading (A × B)
both one other given = joined (one given) (other given)

abbrev pub nothing : Members → Reading (Unit {0})
nothing given = Ok tt

-- what is made of what a reading gives
abbrev pub made_of : {A B : Type 0} → (A → B) → Reading A → Reading B
made_of make (Ok x) = Ok (make x)
made_of make (Err path) = Err path

-- a key without its values: where it stands, and what it refuses a table for
pub record Row : Type 0 where
  pub path : Path
  pub refused : Members → Option Path

abbrev pub row_of : {A : Type 0} → Key A → Row
row_of key = record { path = key.path; refused = λ given. refusal_of (value_of key given) }

-- the first place at which some keys refuse a table, by the bytes of the keys, if one does
abbrev pub refusal : List Row → Members → Option Path
refusal [] given = None
refusal (row ∷ rows) given = least_of (row.refused given) (refusal rows given)

-- of two errors of one table the one that stands first; want of memory comes of either
abbrev pub IsLeast : ValueError → ValueError → ValueError → Type 0
IsLeast (error.Refused one) (error.Refused other) (error.Refused bad) = bad.path.keys ≡ least one.path.keys other.path.keys
IsLeast error.OutOfMemory other (error.Refused bad) = ⊥
IsLeast one error.OutOfMemory (error.Refused bad) = ⊥
IsLeast one other error.OutOfMemory = ⊤

-- ---- where keys stand

-- what stands at a path of a table, by the path of one key: its value, or a table that it is in
abbrev pub known_by : Path → Path → Option Known
known_by [] [] = Some there.Value
known_by (key ∷ more) [] = Some there.Table
known_by [] (key ∷ path) = None
known_by (first ∷ more) (key ∷ path) = if bytes_eq first key then known_by more path else None

-- and by those of several
abbrev pub known : List Row → Path → Option Known
known [] path = None
known (row ∷ rows) path = option_or (known_by row.path path) (known rows path)

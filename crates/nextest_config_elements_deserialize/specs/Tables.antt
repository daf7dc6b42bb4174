-- What stands under the keys of a table, by what a value is.
use Rattle.std.specs.Prelude.{◌≡◌, ℕ, List, Option, None, Some, Ok}
use Rattle.toml.specs.Data.{Data, table, Members, get_member}
use Rattle.nextest_config_elements_toml.specs.Reading.{Reading}
use Rattle.nextest_config_elements_deserialize.specs.Accepted.{IsLeftOut}

-- a key has what is such a value, or is left out and has none
abbrev pub MayBe : {A : Type 0} → Members → List ℕ → (Data → A → Type 0) → Option A → Type 0
MayBe members key Is None = IsLeftOut members key
MayBe members key Is (Some x) = (given : Data) × (get_member key members ≡ Some given) × Is given x

-- a value is read so
abbrev pub Reads : {A : Type 0} → (Data → Reading A) → Data → A → Type 0
Reads reading given x = reading given ≡ Ok x

-- a value is a table of this kind
abbrev pub IsTable : {A : Type 0} → (Members → A → Type 0) → Data → A → Type 0
IsTable Is (table members) x = Is members x
IsTable Is given x = ⊥

-- What is read under a key by a reading of its own, and what stands there.
use Rattle.std.proofs.Common.{◌≡◌, ℕ, List, Option, None, Some, Ok, Err, refl, ap, ◌∙◌}
use Rattle.std.specs.Option.{option_map_or}
use Rattle.toml.specs.Data.{Data, string, integer, float, boolean, datetime, array, table, Members, get_member}
use Rattle.nextest_config_elements_toml.specs.Reading.{Reading, some, under}
use Rattle.nextest_config_elements_deserialize.specs.Tables.{IsTable, MayBe, Reads}
use Rattle.nextest_config_elements_deserialize.specs.Keys.{optional_by, table_by}

-- a reading and what it is read as
pub read_so : {A : Type 0} (reading : Data → Reading A) (given : Data) (x : A) → reading given ≡ Ok x → Reads reading given x
read_so reading given x e = e

pub so_read : {A : Type 0} (reading : Data → Reading A) (given : Data) (x : A) → Reads reading given x → reading given ≡ Ok x
so_read reading given x e = e

some_is : {A : Type 0} (key : List ℕ) (read : Reading A) (x : A) → under key (some read) ≡ Ok (Some x) → read ≡ Ok x
some_is key (Ok y) x e = cc
some_is key (Err path) x e = absurd (cc)

some_isnt : {A : Type 0} (key : List ℕ) (read : Reading A) → under key (some read) ≡ Ok None → ⊥
some_isnt key (Ok y) e = cc
some_isnt key (Err path) e = cc

by_of : {A : Type 0} (key : List ℕ) (reading : Data → Reading A) (Is : Data → A → Type 0)
    (to : (given : Data) (x : A) → reading given ≡ Ok x → Is given x)
    (members : Members) (found : Option Data) (x : Option A) → get_member key members ≡ found
    → under key (option_map_or (λ given. some (reading given)) found (Ok None)) ≡ Ok x → MayBe members key Is x
by_of key reading Is to all None None is e = is
by_of key reading Is to all None (Some y) is e = absurd (cc)
by_of key reading Is to all (Some given) None is e = absurd (some_isnt key (reading given) e)
by_of key reading Is to all (Some given) (Some y) is e = (given, is, to given y (some_is key (reading given) y e))

pub by_has : {A : Type 0} (key : List ℕ) (reading : Data → Reading A) (Is : Data → A → Type 0)
    (to : (given : Data) (x : A) → reading given ≡ Ok x → Is given x)
    (members : Members) (x : Option A) → optional_by key reading members ≡ Ok x → MayBe members key Is x
by_has key reading Is to members x e = by_of key reading Is to members (get_member key members) x refl e

pub has_by : {A : Type 0} (key : List ℕ) (reading : Data → Reading A) (Is : Data → A → Type 0)
    (fro : (given : Data) (x : A) → Is given x → reading given ≡ Ok x)
    (members : Members) (x : Option A) → MayBe members key Is x → optional_by key reading members ≡ Ok x
has_by key reading Is fro all None has =
    ap (λ (it : Option Data). under key (option_map_or (λ given. some (reading given)) it (Ok None))) has
has_by key reading Is fro all (Some y) has =
    ap (λ (it : Option Data). under key (option_map_or (λ given. some (reading given)) it (Ok None))) has.1
    ∙ ap (λ (it : Reading _). under key (some it)) (fro has.0 y has.2)

-- a table
pub table_is : {A : Type 0} (reading : Members → Reading A) (Is : Members → A → Type 0)
    (to : (members : Members) (x : A) → reading members ≡ Ok x → Is members x)
    (given : Data) (x : A) → table_by reading given ≡ Ok x → IsTable Is given x
table_is reading Is to (table members) x e = to members x e
table_is reading Is to (string text) x e = cc
table_is reading Is to (integer number) x e = cc
table_is reading Is to (float number) x e = cc
table_is reading Is to (boolean truth) x e = cc
table_is reading Is to (datetime date) x e = cc
table_is reading Is to (array items) x e = cc

pub is_table : {A : Type 0} (reading : Members → Reading A) (Is : Members → A → Type 0)
    (fro : (members : Members) (x : A) → Is members x → reading members ≡ Ok x)
    (given : Data) (x : A) → IsTable Is given x → table_by reading given ≡ Ok x
is_table reading Is fro (table members) x is = fro members x is
is_table reading Is fro (string text) x is = absurd is
is_table reading Is fro (integer number) x is = absurd is
is_table reading Is fro (float number) x is = absurd is
is_table reading Is fro (boolean truth) x is = absurd is
is_table reading Is fro (datetime date) x is = absurd is
is_table reading Is fro (array items) x is = absurd is

-- How what has parts is read: part by part, up to the first that may not stand where it does.
use Rattle.std.specs.Prelude.{ℕ, List, [], ◌∷◌, Option, Some, Result, Ok, Err}
use Rattle.std.specs.Option.{option_map_or}

-- where a part stands below another: keys and list positions, the outermost first
abbrev pub Path : Type 0
Path = List (List ℕ)

-- a value, or where the first thing stands that is none
abbrev pub Reading : Type 0 → Type 0
Reading A = Result A Path

infixl 10 ◌>>=◌
abbrev pub ◌>>=◌ : {A B : Type 0} → Reading A → (A → Reading B) → Reading B
Ok x >>= next = next x
Err path >>= next = Err path

-- what is wrong in a part stands below its key or position
abbrev pub under : {A : Type 0} → List ℕ → Reading A → Reading A
under key (Ok x) = Ok x
under key (Err path) = Err (key ∷ path)

-- a value without parts, by its own definition
abbrev pub leaf : {A D : Type 0} → (D → Option A) → D → Reading A
leaf value given = option_map_or Ok (value given) (Err [])

-- a part that is there, though it may be left out
abbrev pub some : {A : Type 0} → Reading A → Reading (Option A)
some (Ok x) = Ok (Some x)
some (Err path) = Err path

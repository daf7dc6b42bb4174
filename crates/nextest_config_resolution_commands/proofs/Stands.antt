-- What is read under a key by a reading of its own, and what stands there.
use Rattle.std.proofs.Common.{◌≡◌, ℕ, List, [], Option, None, Some, Ok, Err, refl, sym, ap, ◌∙◌, inl, inr}
use Rattle.std.specs.Option.{option_map_or}
use Rattle.toml.specs.Data.{Data, Members, get_member}
use Rattle.nextest_config_elements_toml.specs.Reading.{Reading, under}
use Rattle.nextest_config_resolution_commands.specs.Accepted.{MayBeOr, MustBe}
use Rattle.nextest_config_elements_deserialize.specs.Below.{defaulted_by, required_by}

pub read_under : {A : Type 0} (key : List ℕ) (reading : Reading A) (x : A) → under key reading ≡ Ok x → reading ≡ Ok x
read_under key (Ok y) x e = e
read_under key (Err path) x e = absurd (cc)

-- a key that must stand
required_of : {A : Type 0} (key : List ℕ) (reading : Data → Reading A) (members : Members) (found : Option Data) (x : A)
    → get_member key members ≡ found → under key (option_map_or reading found (Err [])) ≡ Ok x → MustBe members key (λ given it. reading given ≡ Ok it) x
required_of key reading all None x is e = absurd (cc)
required_of key reading all (Some given) x is e = (given, is, read_under key (reading given) x e)

pub required_is : {A : Type 0} (key : List ℕ) (reading : Data → Reading A) (members : Members) (x : A)
    → required_by key reading members ≡ Ok x → MustBe members key (λ given it. reading given ≡ Ok it) x
required_is key reading members x e = required_of key reading members (get_member key members) x refl e

pub is_required : {A : Type 0} (key : List ℕ) (reading : Data → Reading A) (members : Members) (given : Data) (x : A)
    → get_member key members ≡ Some given → reading given ≡ Ok x → required_by key reading members ≡ Ok x
is_required key reading all given x is e =
    ap (λ (it : Option Data). under key (option_map_or reading it (Err []))) is ∙ ap (λ (it : Reading _). under key it) e

-- a key for which something else stands where it is left out
defaulted_of : {A : Type 0} (key : List ℕ) (reading : Data → Reading A) (Is : Data → A → Type 0)
    (to : (given : Data) (x : A) → reading given ≡ Ok x → Is given x)
    (otherwise : A) (members : Members) (found : Option Data) (x : A) → get_member key members ≡ found
    → under key (option_map_or reading found (Ok otherwise)) ≡ Ok x → MayBeOr members key Is otherwise x
defaulted_of key reading Is to otherwise all None x is e = inl (is, cc)
defaulted_of key reading Is to otherwise all (Some given) x is e = inr (given, is, to given x (read_under key (reading given) x e))

pub defaulted_is : {A : Type 0} (key : List ℕ) (reading : Data → Reading A) (Is : Data → A → Type 0)
    (to : (given : Data) (x : A) → reading given ≡ Ok x → Is given x)
    (otherwise : A) (members : Members) (x : A) → defaulted_by key reading otherwise members ≡ Ok x → MayBeOr members key Is otherwise x
defaulted_is key reading Is to otherwise members x e = defaulted_of key reading Is to otherwise members (get_member key members) x refl e

pub is_defaulted : {A : Type 0} (key : List ℕ) (reading : Data → Reading A) (Is : Data → A → Type 0)
    (fro : (given : Data) (x : A) → Is given x → reading given ≡ Ok x)
    (otherwise : A) (members : Members) (x : A) → MayBeOr members key Is otherwise x → defaulted_by key reading otherwise members ≡ Ok x
is_defaulted key reading Is fro otherwise all x (inl is) =
    ap (λ (it : Option Data). under key (option_map_or reading it (Ok otherwise))) is.0 ∙ ap Ok (sym is.1)
is_defaulted key reading Is fro otherwise all x (inr is) =
    ap (λ (it : Option Data). under key (option_map_or reading it (Ok otherwise))) is.1 ∙ ap (λ (it : Reading _). under key it) (fro is.0 x is.2)

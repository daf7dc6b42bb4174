-- What a reader gives, by what stands under a key.
use Rattle.std.proofs.Common.{◌≡◌, ℕ, ◌⊎◌, List, [], Option, None, Some, Ok, Err, refl, sym, ap, ◌∙◌, inl, inr}
use Rattle.std.specs.Prelude.{option_and_then}
use Rattle.std.specs.Option.{option_map_or}
use Rattle.toml.specs.Data.{Data, Members, get_member}
use Rattle.nextest_config_elements_toml.specs.Reading.{Reading, ◌>>=◌, under, leaf, some, required, optional, defaulted}
use Rattle.nextest_config_elements_deserialize.specs.Accepted.{Has, HasOr, MayHave}

-- what comes of two steps, and what two steps come to
pub record Steps {A B : Type 0} (first : Reading A) (next : A → Reading B) (last : B) : Type 0 where
  pub between : A
  pub read : first ≡ Ok between
  pub on : next between ≡ Ok last

pub taken : {A B : Type 0} (first : Reading A) (next : A → Reading B) (last : B) → (first >>= next) ≡ Ok last → Steps first next last
taken (Ok x) next last e = record { between = x; read = refl; on = e }
taken (Err path) next last e = absurd (cc)

pub step : {A B : Type 0} (first : Reading A) (next : A → Reading B) (x : A) → first ≡ Ok x → (first >>= next) ≡ next x
step first next x e = ap (λ (it : Reading _). it >>= next) e

-- a value without parts
under_is : {A : Type 0} (key : List ℕ) (value : Option A) (x : A) → under key (option_map_or Ok value (Err [])) ≡ Ok x → value ≡ Some x
under_is key None x e = absurd (cc)
under_is key (Some y) x e = cc

abbrev pub reading_of : {A : Type 0} → Option A → Reading A
reading_of value = option_map_or Ok value (Err [])

pub leaf_is : {A : Type 0} (value : Option A) (x : A) → reading_of value ≡ Ok x → value ≡ Some x
leaf_is None x e = absurd (cc)
leaf_is (Some y) x e = cc

pub is_leaf : {A : Type 0} (value : Option A) (x : A) → value ≡ Some x → reading_of value ≡ Ok x
is_leaf value x e = ap reading_of e

-- a key that must stand
required_of : {A : Type 0} (key : List ℕ) (value : Data → Option A) (found : Option Data) (x : A)
    → under key (option_map_or (leaf value) found (Err [])) ≡ Ok x → option_and_then value found ≡ Some x
required_of key value None x e = absurd (cc)
required_of key value (Some given) x e = under_is key (value given) x e

of_required : {A : Type 0} (key : List ℕ) (value : Data → Option A) (found : Option Data) (x : A)
    → option_and_then value found ≡ Some x → under key (option_map_or (leaf value) found (Err [])) ≡ Ok x
of_required key value None x e = absurd (cc)
of_required key value (Some given) x e = ap (λ (it : Option _). under key (option_map_or Ok it (Err []))) e

pub required_has : {A : Type 0} (key : List ℕ) (value : Data → Option A) (members : Members) (x : A)
    → required key value members ≡ Ok x → Has members key value x
required_has key value members x e = required_of key value (get_member key members) x e

pub has_required : {A : Type 0} (key : List ℕ) (value : Data → Option A) (members : Members) (x : A)
    → Has members key value x → required key value members ≡ Ok x
has_required key value members x e = of_required key value (get_member key members) x e

-- a key for which something else stands where it is left out
defaulted_of : {A : Type 0} (key : List ℕ) (value : Data → Option A) (otherwise : A) (found : Option Data) (x : A)
    → under key (option_map_or (leaf value) found (Ok otherwise)) ≡ Ok x
    → (option_and_then value found ≡ Some x) ⊎ ((found ≡ None) × (x ≡ otherwise))
defaulted_of key value otherwise None x e = inr (refl, cc)
defaulted_of key value otherwise (Some given) x e = inl (under_is key (value given) x e)

of_defaulted : {A : Type 0} (key : List ℕ) (value : Data → Option A) (otherwise : A) (found : Option Data) (x : A)
    → (option_and_then value found ≡ Some x) ⊎ ((found ≡ None) × (x ≡ otherwise))
    → under key (option_map_or (leaf value) found (Ok otherwise)) ≡ Ok x
of_defaulted key value otherwise None x (inl e) = absurd (cc)
of_defaulted key value otherwise None x (inr e) = ap Ok (sym e.1)
of_defaulted key value otherwise (Some given) x (inl e) = ap (λ (it : Option _). under key (option_map_or Ok it (Err []))) e
of_defaulted key value otherwise (Some given) x (inr e) = let none : Some given ≡ None = e.0 in absurd (cc)

pub defaulted_has : {A : Type 0} (key : List ℕ) (value : Data → Option A) (otherwise : A) (members : Members) (x : A)
    → defaulted key value otherwise members ≡ Ok x → HasOr members key value otherwise x
defaulted_has key value otherwise members x e = defaulted_of key value otherwise (get_member key members) x e

pub has_defaulted : {A : Type 0} (key : List ℕ) (value : Data → Option A) (otherwise : A) (members : Members) (x : A)
    → HasOr members key value otherwise x → defaulted key value otherwise members ≡ Ok x
has_defaulted key value otherwise members x e = of_defaulted key value otherwise (get_member key members) x e

-- a key that may be left out
some_is : {A : Type 0} (key : List ℕ) (value : Option A) (x : A) → under key (some (option_map_or Ok value (Err []))) ≡ Ok (Some x) → value ≡ Some x
some_is key None x e = absurd (cc)
some_is key (Some y) x e = cc

some_isnt : {A : Type 0} (key : List ℕ) (value : Option A) → under key (some (option_map_or Ok value (Err []))) ≡ Ok None → ⊥
some_isnt key None e = cc
some_isnt key (Some y) e = cc

optional_of : {A : Type 0} (key : List ℕ) (value : Data → Option A) (members : Members) (found : Option Data) (x : Option A)
    → get_member key members ≡ found → under key (option_map_or (λ given. some (leaf value given)) found (Ok None)) ≡ Ok x → MayHave members key value x
optional_of key value all None None is e = is
optional_of key value all None (Some y) is e = absurd (cc)
optional_of key value all (Some given) None is e = absurd (some_isnt key (value given) e)
optional_of key value all (Some given) (Some y) is e = rw is (some_is key (value given) y e)

of_optional : {A : Type 0} (key : List ℕ) (value : Data → Option A) (members : Members) (found : Option Data) (x : Option A)
    → get_member key members ≡ found → MayHave members key value x → under key (option_map_or (λ given. some (leaf value given)) found (Ok None)) ≡ Ok x
of_optional key value all None None is has = refl
of_optional key value all None (Some y) is has = let none : None ≡ Some y = sym (ap (option_and_then value) is) ∙ has in absurd (cc)
of_optional key value all (Some given) None is has = let none : Some given ≡ None = sym is ∙ has in absurd (cc)
of_optional key value all (Some given) (Some y) is has =
    let found : value given ≡ Some y = sym (ap (option_and_then value) is) ∙ has in
    ap (λ (it : Option _). under key (some (option_map_or Ok it (Err [])))) found

pub optional_has : {A : Type 0} (key : List ℕ) (value : Data → Option A) (members : Members) (x : Option A)
    → optional key value members ≡ Ok x → MayHave members key value x
optional_has key value members x e = optional_of key value members (get_member key members) x refl e

pub has_optional : {A : Type 0} (key : List ℕ) (value : Data → Option A) (members : Members) (x : Option A)
    → MayHave members key value x → optional key value members ≡ Ok x
has_optional key value members x has = of_optional key value members (get_member key members) x refl has

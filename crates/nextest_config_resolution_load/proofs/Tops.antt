-- What stands at the keys of a merged tree, and how it is read.
use Rattle.std.proofs.Common.{◌≡◌, ℕ, List, [], ◌∷◌, Option, None, Some, Result, Ok, Err, option_map, Bor, refl, sym, ap, ◌∙◌, subst}
use Rattle.std.specs.Option.{option_and_then, option_copied}
use Rattle.std.specs.Result.{IsErrAnd}
use Rattle.toml.specs.Data.{Data}
use Rattle.toml.specs.View.{view}
use Rattle.toml.specs.declared.value.Value.{Value}
use Rattle.nextest_config_elements_toml.specs.Reading.{Reading, under}
use Rattle.nextest_config_elements_toml.specs.Paths.{Gives, GivesAt, at}
use Rattle.nextest_config_elements_toml.specs.declared.bad_value.BadValue.{BadValue}
use Rattle.nextest_config_elements_toml.specs.declared.value_error.ValueError.{ValueError}
use Rattle.nextest_config_elements_toml.specs.declared.value_error.ValueError.TheVariants as value_error
use Rattle.nextest_config_resolution_load.specs.Reading.{GivesSeen}

pub gives_refused : {A : Type 0} (reading : Reading A) (told : ValueError) (bad : BadValue) → told ≡ value_error.Refused bad → Gives [] (Err told) reading → reading ≡ Err bad.path.keys
gives_refused reading told bad e given = plain reading bad (subst (λ it. Gives [] (Err it) reading) e given)
  where
    plain : {A : Type 0} (reading : Reading A) (bad : BadValue) → at [] reading ≡ Err bad.path.keys → reading ≡ Err bad.path.keys
    plain (Ok x) bad is = is
    plain (Err path) bad is = is

-- ---- what stands at a key

-- a value that is lent
pub ref_view : (lent : Option (Bor Value)) (found : Option Value) → option_copied lent ≡ found → option_map (λ it. view it.now) lent ≡ option_map view found
ref_view None found e = ap (option_map view) e
ref_view (Some it) found e = ap (option_map view) e

pub only_some : (found : Option Data) → option_and_then Some found ≡ found
only_some None = refl
only_some (Some it) = refl

pub at_key : {A : Type 0} (key : List ℕ) (reading : Reading A) → at (key ∷ []) reading ≡ under key reading
at_key key (Ok x) = refl
at_key key (Err path) = refl

pub seen_at : {A : Type 0} (key : List ℕ) (result : Result A ValueError) (reading : Reading A) → GivesAt (key ∷ []) result reading → GivesSeen (λ it. it) result (under key reading)
seen_at key (Ok x) reading e = ap (under key) e
seen_at key (Err (value_error.Refused bad)) reading e = sym (at_key key reading) ∙ e
seen_at key (Err value_error.OutOfMemory) reading e = tt

-- what is read of a value that was found
pub read_found : {A : Type 0} (key : List ℕ) (reading : Option Data → Reading A) (lent : Option (Bor Value)) (found : Option Value) (given : Option Data) (result : Result A ValueError)
    → option_copied lent ≡ found → option_map view found ≡ given → GivesAt (key ∷ []) result (reading (option_map (λ it. view it.now) lent)) → GivesSeen (λ it. it) result (under key (reading given))
read_found {A} key reading lent found given result same is gives =
    seen_at key result (reading given) (subst (λ (it : Option Data). GivesAt (key ∷ []) result (reading it)) (ref_view lent found same ∙ is) gives)

-- what is refused further down, handed on
pub handed_on : {A B : Type 0} (view : A → B) (result : Result A ValueError) (told : ValueError) (reading : Reading B) → IsErrAnd result (λ error. error ≡ told)
    → GivesSeen view (Err told) reading → GivesSeen view result reading
handed_on view (Ok x) told reading is given = absurd is
handed_on view (Err error) told reading is given = subst (λ it. GivesSeen view (Err it) reading) (sym is) given

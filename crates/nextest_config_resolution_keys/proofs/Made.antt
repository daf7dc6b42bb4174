-- What is made of what a reading gives.
use Rattle.std.proofs.Common.{◌≡◌, ℕ, List, [], ◌++◌, Ok, Err, refl, sym, ap, ◌∙◌}
use denote.Ref.{Bor}
use Rattle.nextest_config_elements_deserialize.specs.Below.{IsBelow}
use Rattle.nextest_config_elements_toml.specs.Paths.{Gives, at, texts}
use Rattle.nextest_config_elements_toml.specs.Reading.{Path, Reading}
use Rattle.nextest_config_elements_toml.specs.declared.value_error.ValueError.{ValueError}
use Rattle.nextest_config_elements_toml.specs.declared.value_error.ValueError.TheVariants as error
use Rattle.nextest_config_resolution_keys.specs.Rows.{made_of, refusal_of}

pub err_inj : {A : Type 0} (path way : Path) → ◌≡◌ {A = Reading A} (Err path) (Err way) → path ≡ way
err_inj path way e = cc

-- what is refused, told below a path
told_at : {A B : Type 0} (make : A → B) (place : Path) (x : Reading A) (given told : Path) → at [] x ≡ Err given → told ≡ place ++ given → at place (made_of make x) ≡ Err told
told_at make place (Ok values) given told e f = absurd (cc)
told_at make place (Err path) given told e f = ap Err (ap (λ it. place ++ it) (err_inj path given e) ∙ sym f)

pub gives_within : {A B : Type 0} (make : A → B) (path : List (Bor (List ℕ))) (given told : ValueError) (x : Reading A)
    → Gives {A = A} [] (Err given) x → IsBelow (texts path) given told → Gives {A = B} path (Err told) (made_of make x)
gives_within make path (error.Refused bad) (error.Refused after) x gives below = told_at make (texts path) x bad.path.keys after.path.keys gives below.place
gives_within make path error.OutOfMemory (error.Refused after) x gives below = absurd below
gives_within make path (error.Refused bad) error.OutOfMemory x gives below = tt
gives_within make path error.OutOfMemory error.OutOfMemory x gives below = tt

pub refused_made : {A B : Type 0} (make : A → B) (x : Reading A) → refusal_of (made_of make x) ≡ refusal_of x
refused_made make (Ok values) = refl
refused_made make (Err path) = refl

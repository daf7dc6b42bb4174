-- What a reader gives under a key, by what it gives without a path.
use Rattle.std.proofs.Common.{◌≡◌, ℕ, List, [], ◌∷◌, ◌++◌, Ok, Err, sym, ap, ◌∙◌}
use Rattle.std.proofs.lemmas.List.{append_assoc}
use denote.Ref.{Bor}
use Rattle.nextest_config_elements_toml.specs.Paths.{Gives, at, texts}
use Rattle.nextest_config_elements_toml.specs.Reading.{Path, Reading, under}
use Rattle.nextest_config_elements_toml.specs.declared.value_error.ValueError.{ValueError}
use Rattle.nextest_config_elements_toml.specs.declared.value_error.ValueError.TheVariants as error
use Rattle.nextest_config_elements_deserialize.specs.Below.{IsBelow}

-- a path and a key in front of where a reading refuses
told_below : {A : Type 0} (path : Path) (key : List ℕ) (inner keys : Path) (reading : Reading A)
    → at [] reading ≡ Err inner → keys ≡ (path ++ key ∷ []) ++ inner → at path (under key reading) ≡ Err keys
told_below path key inner keys (Ok x) is told = absurd (cc)
told_below path key inner keys (Err place) is told =
    let same : place ≡ inner = cc in
    ap Err (ap (λ (it : Path). path ++ key ∷ it) same ∙ sym (append_assoc path (key ∷ []) inner) ∙ sym told)

pub gives_below : {A : Type 0} (path : List (Bor (List ℕ))) (key : List ℕ) (given told : ValueError) (reading : Reading A)
    → Gives [] (Err given) reading → IsBelow (texts path ++ key ∷ []) given told → Gives path (Err told) (under key reading)
gives_below path key (error.Refused bad) (error.Refused after) reading is below = told_below (texts path) key bad.path.keys after.path.keys reading is below.place
gives_below path key error.OutOfMemory (error.Refused after) reading is below = absurd below
gives_below path key (error.Refused bad) error.OutOfMemory reading is below = tt
gives_below path key error.OutOfMemory error.OutOfMemory reading is below = tt

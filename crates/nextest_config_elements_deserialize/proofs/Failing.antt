-- What is refused last of several values.
use Rattle.std.proofs.Common.{◌≡◌, ◌++◌, Ok, Err, sym, ap, subst, Result}
use Rattle.std.proofs.lemmas.Result.{err_from_is_err_and}
use Rattle.std.specs.Result.{IsErrAnd}
use Rattle.nextest_config_elements_toml.specs.Paths.{GivesAt}
use Rattle.nextest_config_elements_toml.specs.Reading.{Path, Reading, ◌>>=◌}
use Rattle.nextest_config_elements_toml.specs.declared.value_error.ValueError.{ValueError}
use Rattle.nextest_config_elements_toml.specs.declared.value_error.ValueError.TheVariants as error

fails_with : {A B : Type 0} (path : Path) (told : ValueError) (reading : Reading A) (next : A → Reading B) → GivesAt path (Err told) reading → GivesAt path (Err told) (reading >>= next)
fails_with path (error.Refused bad) (Ok x) next gives = absurd (cc)
fails_with path (error.Refused bad) (Err place) next gives = let same : path ++ place ≡ bad.path.keys = cc in ap Err same
fails_with path error.OutOfMemory reading next gives = tt

-- a call that answers what another refused
pub fails_within : {A B : Type 0} (path : Path) (told : ValueError) (result : Result B ValueError) (reading : Reading A) (next : A → Reading B)
    → GivesAt path (Err told) reading → IsErrAnd result (λ y. y ≡ told) → GivesAt path result (reading >>= next)
fails_within path told result reading next gives is =
    let error = err_from_is_err_and result is in
    subst (λ it. GivesAt path it (reading >>= next)) (sym error.1) (subst (λ it. GivesAt path (Err it) (reading >>= next)) (sym error.2) (fails_with path told reading next gives))

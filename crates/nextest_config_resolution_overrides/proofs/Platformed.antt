-- What is refused of a table of platforms.
use Rattle.std.proofs.Common.{◌≡◌, [], Ok, Err, ap}
use Rattle.nextest_config_elements_toml.specs.Paths.{GivesAt}
use Rattle.nextest_config_elements_toml.specs.Reading.{Reading}
use Rattle.nextest_config_elements_toml.specs.declared.value_error.ValueError.{ValueError}
use Rattle.nextest_config_elements_toml.specs.declared.value_error.ValueError.TheVariants as error
use Rattle.nextest_config_resolution_keys.proofs.Made.{err_inj}
use Rattle.nextest_config_resolution_keys.specs.Rows.{made_of}

-- it is refused of what is made of its values
pub gives_made : {A B : Type 0} (make : A → B) (told : ValueError) (x : Reading A) → GivesAt {A = A} [] (Err told) x → GivesAt {A = B} [] (Err told) (made_of make x)
gives_made make (error.Refused bad) (Ok values) gives = absurd (let g = gives in cc)
gives_made make (error.Refused bad) (Err path) gives = ap Err (err_inj path bad.path.keys gives)
gives_made make error.OutOfMemory x gives = tt

-- What two readings of one table give together.
use Rattle.std.proofs.Common.{◌≡◌, [], Ok, Err, ap, sym}
use Rattle.nextest_config_elements_toml.specs.Paths.{GivesAt}
use Rattle.nextest_config_elements_toml.specs.Reading.{Reading}
use Rattle.nextest_config_elements_toml.specs.declared.value_error.ValueError.{ValueError}
use Rattle.nextest_config_elements_toml.specs.declared.value_error.ValueError.TheVariants as error
use Rattle.nextest_config_resolution_keys.proofs.Made.{err_inj}
use Rattle.nextest_config_resolution_keys.specs.Rows.{IsLeast, joined}

-- two refusals come to the one that stands first
pub refuse_both : {A B : Type 0} (x : Reading A) (y : Reading B) (one other told : ValueError)
    → GivesAt {A = A} [] (Err one) x → GivesAt {A = B} [] (Err other) y → IsLeast one other told → GivesAt {A = A × B} [] (Err told) (joined x y)
refuse_both x y one other error.OutOfMemory a b is = tt
refuse_both x y error.OutOfMemory other (error.Refused bad) a b is = absurd is
refuse_both x y (error.Refused first) error.OutOfMemory (error.Refused bad) a b is = absurd is
refuse_both (Ok x) y (error.Refused first) (error.Refused second) (error.Refused bad) a b is = absurd (cc)
refuse_both (Err path) (Ok y) (error.Refused first) (error.Refused second) (error.Refused bad) a b is = absurd (cc)
refuse_both (Err path) (Err way) (error.Refused first) (error.Refused second) (error.Refused bad) a b is =
    let one : path ≡ first.path.keys = err_inj path first.path.keys a in
    let other : way ≡ second.path.keys = err_inj way second.path.keys b in
    ap Err (rw (one, other) (sym is))

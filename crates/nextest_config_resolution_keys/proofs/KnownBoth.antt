-- What two lists of keys know.
use Rattle.std.proofs.Common.{◌≡◌, List, [], ◌∷◌, ◌++◌, Option, None, Some, refl, ap, ◌∙◌, sym}
use Rattle.std.specs.Option.{option_or}
use Rattle.nextest_config_elements_toml.specs.Reading.{Path}
use Rattle.nextest_config_resolution_keys.specs.Rows.{Row, known, known_by}

or_assoc : {A : Type 0} (a b c : Option A) → option_or a (option_or b c) ≡ option_or (option_or a b) c
or_assoc None b c = refl
or_assoc (Some x) b c = refl

pub known_both : (rows more : List Row) (path : Path) → known (rows ++ more) path ≡ option_or (known rows path) (known more path)
known_both [] more path = refl
known_both (row ∷ rows) more path =
    ap (option_or (known_by row.path path)) (known_both rows more path) ∙ or_assoc (known_by row.path path) (known rows path) (known more path)

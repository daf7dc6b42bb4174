-- Where profiles stand.
use Rattle.std.specs.Prelude.{ℕ, List, [], ◌∷◌, codes}
use Rattle.nextest_config_elements_toml.specs.Reading.{Path}

-- where a profile stands
abbrev pub profile_path : List ℕ → Path
profile_path name = codes "profile" ∷ name ∷ []

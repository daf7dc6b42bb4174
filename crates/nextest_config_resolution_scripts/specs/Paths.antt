-- Where scripts stand.
use Rattle.std.specs.Prelude.{[], ◌∷◌, codes}
use Rattle.nextest_config_elements_toml.specs.Reading.{Path}

-- where the scripts of both kinds stand, and where setup scripts stood before
abbrev pub scripts_path : Path
scripts_path = codes "scripts" ∷ []

abbrev pub old_scripts_path : Path
old_scripts_path = codes "script" ∷ []

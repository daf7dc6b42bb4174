-- The way to a value.
use Rattle.std.specs.Prelude.{ℕ, List, decimal, map, ◌++◌}
use Rattle.nextest_config_elements_toml.specs.Reading.{Path}
use Rattle.nextest_config_elements_toml.specs.declared.key_path.KeyPath.{KeyPath}
use Rattle.nextest_config_resolution_warnings.specs.Unknown.{key_path}
use Rattle.nextest_config_resolution_warnings.specs.declared.step.KeyStep.{KeyStep}
use Rattle.nextest_config_resolution_warnings.specs.declared.step.KeyStep.TheVariants.{Key, Position}

-- the key that a step is in a path: a position is one in decimal
abbrev pub text_of : KeyStep → List ℕ
text_of (Key key) = key.now
text_of (Position position) = decimal position

-- the path that steps make
abbrev pub path_of : List KeyStep → Path
path_of steps = map text_of steps

-- paths below a way, as they are handed out
abbrev pub paths_below : List KeyStep → List Path → List KeyPath
paths_below steps paths = map (λ path. key_path (path_of steps ++ path)) paths

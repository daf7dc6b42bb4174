-- The keys of paths.
use Rattle.std.specs.Prelude.{List, ◌++◌, map, Option, option_to_list}
use Rattle.std.specs.Arc.{arc_str_bytes}
use Rattle.std.specs.declared.sync.ArcStr.{ArcStr}
use Rattle.std.specs.Global.{Global}
use Rattle.nextest_config_elements_toml.specs.Reading.{Path}

abbrev pub keys_of : List (ArcStr Global) → Path
keys_of keys = map arc_str_bytes keys

-- those that lead to a table, and one in it, if there is one
abbrev pub path_in : List (ArcStr Global) → Option (ArcStr Global) → Path
path_in above key = keys_of (above ++ option_to_list key)

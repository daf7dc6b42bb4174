-- What the laws say.
use Rattle.std.specs.Prelude.{◌≡◌, List, ◌∷◌}
use Rattle.toml.specs.Data.{Data}
use Rattle.nextest_config_elements_toml.specs.Reading.{Path}
use Rattle.nextest_config_resolution_tree.specs.Ends.{IsSorted, ends, ends_at}
use Rattle.nextest_config_resolution_tree.specs.Merged.{Standing, StandsIn, IsMerged, merge_of_files}
use Rattle.nextest_config_resolution_tree.specs.Runs.{below_path}
use Rattle.nextest_config_resolution_tree.specs.Tree.{get_path}

-- the files, each over the lower ones, are their merged tree
abbrev pub MergedByOver : Type 0
MergedByOver = (file : Data) (below : List Data) → IsMerged (file ∷ below) (merge_of_files file below)

-- at a path stands one thing
abbrev pub OneStanding : Type 0
OneStanding = (files : List Data) (path : Path) (one other : Standing) → StandsIn files path one → StandsIn files path other → one ≡ other

-- what stands at a path of a tree is read off the list of what the tree ends in
abbrev pub ReadAtPath : Type 0
ReadAtPath = (tree : Data) (path : Path) → IsSorted tree → below_path path (ends tree) ≡ ends_at (get_path path tree)

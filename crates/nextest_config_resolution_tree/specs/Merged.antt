-- The merged tree of some files, the highest first: what stands at each path.
use Rattle.std.specs.Prelude.{◌≡◌, ◌↔◌, ℕ, List, [], ◌∷◌, ◌++◌, Option, None, Some, option_map}
use Rattle.std.specs.List.{AllByRecursion}
use Rattle.toml.specs.Data.{Data, table}
use Rattle.nextest_config_elements_toml.specs.Reading.{Path}
use Rattle.nextest_config_resolution_tree.specs.Tree.{get_path, over}

-- a path has a table, or this leaf
pub data Standing : Type 0 where
  a_table : Standing
  a_leaf : Data → Standing

abbrev pub standing_of : Data → Standing
standing_of (table _) = a_table
standing_of leaf = a_leaf leaf

-- what stands at a path of a file, if anything does
abbrev pub stands : Path → Data → Option Standing
stands path file = option_map standing_of (get_path path file)

-- a leaf stands above a path
pub record HasLeafAbove (path : Path) (file : Data) : Type 0 where
  pub front : Path
  pub key : List ℕ
  pub rest : Path
  pub parted : path ≡ front ++ key ∷ rest
  pub leaf : Data
  pub stands_there : stands front file ≡ Some (a_leaf leaf)

-- at a path stands what the highest file that has something there has, unless a file above that one
-- has a leaf above the path
pub record StandsIn (files : List Data) (path : Path) (it : Standing) : Type 0 where
  pub above : List Data
  pub file : Data
  pub below : List Data
  pub parted : files ≡ above ++ file ∷ below
  pub has_none : AllByRecursion (λ other. stands path other ≡ None) above
  pub has_no_leaf : AllByRecursion (λ other. ¬ HasLeafAbove path other) above
  pub has_it : stands path file ≡ Some it

-- a tree is the merged one of some files
abbrev pub IsMerged : List Data → Data → Type 0
IsMerged files tree = (path : Path) (it : Standing) → (stands path tree ≡ Some it) ↔ StandsIn files path it

-- the highest file, over what the others are merged to
abbrev pub merge_of_files : Data → List Data → Data
merge_of_files file [] = file
merge_of_files file (next ∷ below) = over file (Some (merge_of_files next below))

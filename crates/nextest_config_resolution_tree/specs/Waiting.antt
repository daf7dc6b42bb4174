-- What waits for its ends to be added, and the ends that are left.
use Rattle.std.specs.Prelude.{⊤, List, [], ◌∷◌, ◌++◌, map, reverse}
use Rattle.nextest_config_resolution_tree.specs.Ends.{End, IsSorted, along, ends, ends_of}
use Rattle.nextest_config_resolution_tree.specs.Gathered.{merged_layers}
use Rattle.nextest_config_resolution_tree.specs.declared.entry.Entry.{Entry}
use Rattle.nextest_config_resolution_tree.specs.declared.merging.Waiting.{Waiting}

-- the ends of all that waits, in its order
abbrev pub waiting_ends : List Waiting → List End
waiting_ends [] = []
waiting_ends (first ∷ more) = map (along first.path) (ends (merged_layers first.layers)) ++ waiting_ends more

-- those, and behind them the ends that were found, the last one first
abbrev pub ends_left : List Waiting → List Entry → List End
ends_left waiting found = waiting_ends waiting ++ reverse (ends_of 0 found)

-- the keys of each table in it rise
abbrev pub AllSorted : List Waiting → Type 0
AllSorted [] = ⊤
AllSorted (first ∷ more) = IsSorted (merged_layers first.layers) × AllSorted more

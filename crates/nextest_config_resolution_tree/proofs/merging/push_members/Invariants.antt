use Rattle.std.proofs.Common.{◌≡◌, List, ◌++◌, map}
use Rattle.nextest_config_resolution_tree.specs.Ends.{along, members_ends}
use Rattle.nextest_config_resolution_tree.specs.Gathered.{members_of}
use Rattle.nextest_config_resolution_tree.specs.Waiting.{AllSorted, waiting_ends}
use Rattle.nextest_config_resolution_tree.proofs.Ends.{EachSorted}
use Rattle.nextest_config_resolution_tree.proofs.Gathered.{Entry}
use Rattle.nextest_config_resolution_tree.proofs.merging.push_members.Given as goal

-- the members so far: their ends wait, and where all that waits is sorted, so are what waited before and they
abbrev pub invariant-loop-key : goal.invariant-loop-key
invariant-loop-key l =
    (done : List Entry) × (l.fn.members.entries ≡ done ++ l.key-iterator)
    × (waiting_ends l.waiting.items ≡ waiting_ends l.initial.waiting.items ++ map (along l.path) (members_ends (members_of done)))
    × (AllSorted l.waiting.items → AllSorted l.initial.waiting.items × EachSorted done)

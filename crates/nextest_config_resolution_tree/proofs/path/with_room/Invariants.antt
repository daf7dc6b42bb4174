use Rattle.std.proofs.Common.{◌≡◌, take}
use Rattle.nextest_config_resolution_tree.specs.Keys.{keys_of}
use Rattle.nextest_config_resolution_tree.proofs.path.with_room.Given as goal

-- the keys so far
abbrev pub invariant-loop-key : goal.invariant-loop-key
invariant-loop-key l = keys_of l.copied.items ≡ keys_of (take l.key-index l.keys)

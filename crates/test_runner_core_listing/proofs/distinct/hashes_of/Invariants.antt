use Rattle.std.proofs.Common.{◌≡◌, map, take}
use Rattle.nextest_text.specs.Parts.{lent_texts}
use Rattle.test_runner_core_listing.specs.Hashed.{hash}
use Rattle.test_runner_core_listing.proofs.distinct.hashes_of.Given as goal

-- of the names so far
abbrev pub invariant-loop-name : goal.invariant-loop-name
invariant-loop-name l = l.hashes.items ≡ map hash (take l.name-index (lent_texts l.names))

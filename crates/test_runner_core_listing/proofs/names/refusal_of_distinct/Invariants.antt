use Rattle.std.proofs.Common.{◌≡◌, [], take, drop}
use Rattle.nextest_text.specs.Parts.{lent_texts}
use Rattle.test_runner_core_listing.specs.Listing.{refused_name}
use Rattle.test_runner_core_listing.proofs.names.refusal_of_distinct.Given as goal

-- none of the names so far is refused
abbrev pub invariant-loop-name : goal.invariant-loop-name
invariant-loop-name l = refused_name (take l.name-index (lent_texts l.names)) (drop l.name-index (lent_texts l.names)) ≡ refused_name [] (lent_texts l.names)

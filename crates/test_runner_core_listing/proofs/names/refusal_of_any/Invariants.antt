use Rattle.std.proofs.Common.{◌≡◌, ℕ, List, [], take, drop}
use Rattle.nextest_text.specs.Parts.{lent_texts}
use Rattle.test_runner_core_workspace.specs.Workspace.{is_among}
use Rattle.test_runner_core_listing.specs.Listing.{refused_name}
use Rattle.test_runner_core_listing.proofs.OneByOne.{has_name}
use Rattle.test_runner_core_listing.proofs.names.refusal_of_any.Given as goal

-- the set has the names so far, and none of them is refused
abbrev pub invariant-loop-name : goal.invariant-loop-name
invariant-loop-name l = record {
  known : (text : List ℕ) → has_name l.before text ≡ is_among (take l.name-index (lent_texts l.names)) text;
  rest : refused_name (take l.name-index (lent_texts l.names)) (drop l.name-index (lent_texts l.names)) ≡ refused_name [] (lent_texts l.names);
}

use Rattle.std.proofs.Common.{◌≡◌, take}
use Rattle.std.specs.List.{All}
use Rattle.test_runner_core_listing.specs.Answers.{HoldsOn}
use Rattle.test_runner_core_listing.proofs.listing.is_selected.Given as goal

-- all so far hold, and are as they were
abbrev pub invariant-loop-evaluator : goal.invariant-loop-evaluator
invariant-loop-evaluator g l = record {
  same : l.evaluators ≡ l.initial.evaluators;
  hold : All (HoldsOn l.name (g.G.GroupLookup.member l.groups)) (take l.evaluator-index l.initial.evaluators);
}

use Rattle.std.proofs.Common.{◌≡◌, take}
use Rattle.std.specs.List.{All}
use Rattle.test_runner_core_listing.specs.Answers.{CanHold}
use Rattle.test_runner_core_listing.proofs.listing.is_listed.Given as goal

-- all so far can hold, and are as they were
abbrev pub invariant-loop-evaluator : goal.invariant-loop-evaluator
invariant-loop-evaluator l = record {
  same : l.evaluators ≡ l.initial.evaluators;
  can : All CanHold (take l.evaluator-index l.initial.evaluators);
}

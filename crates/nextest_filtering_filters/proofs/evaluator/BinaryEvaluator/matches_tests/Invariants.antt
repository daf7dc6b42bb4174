use Rattle.std.proofs.Common.{◌≡◌, Bool, Bor, List, ℕ, take}
use Rattle.std.specs.List.{AllZip}
use Rattle.nextest_filtering_filters.proofs.ByName.{IsOnName}
use Rattle.nextest_filtering_filters.proofs.evaluator.BinaryEvaluator.matches_tests.Given as goal

abbrev pub invariant-loop-name : goal.invariant-loop-name
invariant-loop-name l = record {
  values : AllZip (λ (name : Bor (List ℕ)) (value : Bool). IsOnName l.initial.self name.now value) (take l.name-index l.names) l.values.items;
  same : l.self ≡ l.initial.self;
}

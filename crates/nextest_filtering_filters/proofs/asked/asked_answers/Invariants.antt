use Rattle.std.proofs.Common.{◌≡◌, Bool, Bor, List, ℕ, take, false}
use Rattle.std.specs.List.{AllZip}
use Rattle.nextest_filtering_filters.specs.Asking.{IsDecided, IsFor}
use Rattle.nextest_filtering_filters.specs.Query.{Binary}
use Rattle.nextest_filtering_filters.specs.declared.leaf.FiltersetLeaf.{FiltersetLeaf}
use Rattle.nextest_filtering_filters.proofs.asked.asked_answers.Given as goal

abbrev pub invariant-loop-name : goal.invariant-loop-name
invariant-loop-name l = record {
  values : AllZip
      (λ (name : Bor (List ℕ)) (value : Bool). IsDecided l.initial.asked l.decision name.now value)
      (take l.name-index l.names) l.values.items;
  stays : (binary : Binary) (leaf : FiltersetLeaf) → IsFor binary leaf l.initial.asked → IsFor binary leaf l.asked;
}
